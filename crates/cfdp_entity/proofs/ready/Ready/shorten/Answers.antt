use Rattle.std.proofs.Common.{◌≡◌, ◌-◌, Bool, List, false, length, get_or, take, sym, ap, ◌∙◌, arith}
use Rattle.cfdp_entity.proofs.Flags.{length-flags, flag-is, taken-flags, shorter-indexed}
use Rattle.cfdp_entity.proofs.ready.Ready.shorten.Goals as goal

pub overflow_sub-self : goal.overflow_sub-self
overflow_sub-self c =
    let len = length-flags c.self.inside.len c.self.inside.words.items in
    let is = ap length c.self.view_is in
    let some = c.requires.some in
    omega (arith, len, is, some)

pub invariant_of-self : goal.invariant_of-self
invariant_of-self c =
    let n = c.self.inside.len in
    let words = c.self.inside.words.items in
    let len = length-flags n words in
    let is = ap length c.self.view_is in
    let some = c.requires.some in
    let last : length c.args.self.now - 1 ≡ n - 1 = omega (arith, len, is) in
    shorter-indexed n (n - 1) words c.self.inside.some (omega (arith, len, is, some)) c.self.invariant
    (sym (flag-is n words c.self.inside.some c.self.invariant (n - 1)) ∙ ap (λ (l : List Bool). get_or l (n - 1) false) c.self.view_is
    ∙ ap (λ k. get_or c.args.self.now k false) (sym last) ∙ c.requires.clear)

pub returns : goal.returns
returns c =
    let n = c.self.inside.len in
    let words = c.self.inside.words.items in
    let len = length-flags n words in
    let is = ap length c.self.view_is in
    let some = c.requires.some in
    let last : n - 1 ≡ length c.args.self.now - 1 = omega (arith, len, is) in
    taken-flags n (n - 1) words (omega (arith, len, is, some)) ∙ (λ i. take (last i) (c.self.view_is i))
