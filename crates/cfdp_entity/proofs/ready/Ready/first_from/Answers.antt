use Rattle.std.proofs.Common.{◌≡◌, ◌+◌, ◌*◌, ◌/◌, ◌<◌, Some, None, length, position, drop, ap, refl, subst, sym, ◌∙◌, arith}
use Rattle.std.specs.Int.{bit_at}
use Rattle.std.specs.Option.{option_map}
use Rattle.std.proofs.lemmas.List.{get_or_read}
use Rattle.cfdp_entity.specs.Ready.{flags_in}
use Rattle.cfdp_entity.proofs.Flags.{length-flags, unmarked-none, past-none, own-found, behind-found, behind-none}
use Rattle.cfdp_entity.proofs.ready.Ready.first_from.Goals as goal

pub returns-then-self-eq0-clause-first : goal.returns-then-self-eq0-clause-first
returns-then-self-eq0-clause-first c =
    subst (λ flags. None ≡ option_map (λ i. c.args.from + i) (position (λ b. b) (drop c.args.from flags))) c.self.view_is
    (unmarked-none c.self.inside.len c.self.inside.words.items c.self.inside.some c.self.invariant c.args.from c.if-self-eq0.true)

pub returns-then-self-from-clause-first : goal.returns-then-self-from-clause-first
returns-then-self-from-clause-first c =
    subst (λ flags. None ≡ option_map (λ i. c.args.from + i) (position (λ b. b) (drop c.args.from flags))) c.self.view_is
    (past-none c.self.inside.len c.self.inside.words.items c.self.inside.some c.self.invariant c.args.from c.if-self-from.true)

own : (c : goal.In-Some) → (64 * (c.args.from / 64) + c.in-Some.bit < c.self.inside.len)
    × (Some (64 * (c.args.from / 64) + c.in-Some.bit) ≡ option_map (λ i. c.args.from + i) (position (λ b. b) (drop c.args.from (flags_in c.self.inside.len c.self.inside.words.items))))
own c =
    let few = c.self.invariant.few in
    let whole = c.self.invariant.whole in
    let word = get_or_read c.self.inside.words.items (c.args.from / 64) c.index.result.now (omega arith) c.index.ensures 0 in
    own-found c.self.inside.len c.self.inside.words.items c.self.inside.some c.self.invariant c.args.from c.in-Some.bit c.in-Some.ensures.within.0 c.in-Some.ensures.within.1
    (ap (λ y. bit_at y c.in-Some.bit) (sym word) ∙ c.in-Some.ensures.here)
    (λ i on l. ap (λ y. bit_at y i) (sym word) ∙ c.in-Some.ensures.before i on l)

pub returns-in-Some-clause-first : goal.returns-in-Some-clause-first
returns-in-Some-clause-first c =
    subst (λ flags. Some (64 * (c.args.from / 64) + c.in-Some.bit) ≡ option_map (λ i. c.args.from + i) (position (λ b. b) (drop c.args.from flags))) c.self.view_is (own c).1

pub returns-in-Some-clause-within : goal.returns-in-Some-clause-within
returns-in-Some-clause-within c =
    subst (λ flags. 64 * (c.args.from / 64) + c.in-Some.bit < length flags) c.self.view_is
    (let len = length-flags c.self.inside.len c.self.inside.words.items in let low = (own c).0 in omega arith)

behind : (c : goal.After-lowest_bit) → (64 * c.in-Some-first_bit.next + c.lowest_bit.result < c.self.inside.len)
    × (Some (64 * c.in-Some-first_bit.next + c.lowest_bit.result) ≡ option_map (λ i. c.args.from + i) (position (λ b. b) (drop c.args.from (flags_in c.self.inside.len c.self.inside.words.items))))
behind c =
    let few = c.self.invariant.few in
    let whole = c.self.invariant.whole in
    let there = c.in-Some-first_bit.ensures.within in
    let word = get_or_read c.self.inside.words.items (c.args.from / 64) c.index.result.now (omega arith) c.index.ensures 0 in
    let next = get_or_read c.self.inside.words.items c.in-Some-first_bit.next c.index-in-Some-first_bit.result.now (omega arith) c.index-in-Some-first_bit.ensures 0 in
    behind-found c.self.inside.len c.self.inside.words.items c.self.inside.some c.self.invariant c.args.from c.if-self-from.false
    (λ i on l. ap (λ y. bit_at y i) (sym word) ∙ c.in_default.ensures.none refl i on l)
    c.in-Some-first_bit.next c.lowest_bit.result there.0 there.1 c.lowest_bit.ensures.within
    (ap (λ y. bit_at y c.lowest_bit.result) (sym next) ∙ c.lowest_bit.ensures.here)
    c.in-Some-first_bit.ensures.before
    (λ i l. ap (λ y. bit_at y i) (sym next) ∙ c.lowest_bit.ensures.before i l)

pub returns-in-Some-first_bit-clause-first : goal.returns-in-Some-first_bit-clause-first
returns-in-Some-first_bit-clause-first c =
    subst (λ flags. Some (64 * c.in-Some-first_bit.next + c.lowest_bit.result) ≡ option_map (λ i. c.args.from + i) (position (λ b. b) (drop c.args.from flags))) c.self.view_is (behind c).1

pub returns-in-Some-first_bit-clause-within : goal.returns-in-Some-first_bit-clause-within
returns-in-Some-first_bit-clause-within c =
    subst (λ flags. 64 * c.in-Some-first_bit.next + c.lowest_bit.result < length flags) c.self.view_is
    (let len = length-flags c.self.inside.len c.self.inside.words.items in let low = (behind c).0 in omega arith)

pub returns-in-None-clause-first : goal.returns-in-None-clause-first
returns-in-None-clause-first c =
    let few = c.self.invariant.few in
    let whole = c.self.invariant.whole in
    let word = get_or_read c.self.inside.words.items (c.args.from / 64) c.index.result.now (omega arith) c.index.ensures 0 in
    subst (λ flags. None ≡ option_map (λ i. c.args.from + i) (position (λ b. b) (drop c.args.from flags))) c.self.view_is
    (behind-none c.self.inside.len c.self.inside.words.items c.self.inside.some c.self.invariant c.args.from c.if-self-from.false
    (λ i on l. ap (λ y. bit_at y i) (sym word) ∙ c.in_default.ensures.none refl i on l)
    (c.in-None.ensures.none refl))
