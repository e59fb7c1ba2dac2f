use Rattle.std.proofs.Common.{◌≡◌, ◌/◌, ◌%◌, ◌==◌, ℕ, Bool, false, List, get_or, refl, sym, ap, ◌∙◌, arith, inl, inr}
use Rattle.std.specs.Int.{bit_at}
use Rattle.std.proofs.lemmas.Bool.{eqb-true, eqb-false, cases_Bool}
use Rattle.std.proofs.lemmas.List.{get_or_read}
use Rattle.cfdp_entity.specs.Ready.{is_set}
use Rattle.cfdp_entity.proofs.Flags.{low-place, place-bit, flag-is}
use Rattle.cfdp_entity.proofs.ready.Ready.is_set.Goals as goal

pub index-requires : goal.index-requires
index-requires c =
    let low = low-place c.self.inside.len c.self.inside.words.items c.args.self.now c.args.place c.self.view_is c.requires.within in
    let few = c.self.invariant.few in
    let whole = c.self.invariant.whole in
    let is = c.self.inside.words.ok.0 in
    omega arith

-- what the flag is, by the bit
flag-by : (words : List ℕ) (place word bit : ℕ) → get_or words (place / 64) 0 ≡ word → bit_at word (place % 64) ≡ bit → is_set words place ≡ (bit == 1)
flag-by words place word bit is here = place-bit words place (place / 64) (place % 64) refl refl ∙ ap (λ b. b == 1) (ap (λ w. bit_at w (place % 64)) is ∙ here)

pub returns-in-Some : goal.returns-in-Some
returns-in-Some c =
    let low = low-place c.self.inside.len c.self.inside.words.items c.args.self.now c.args.place c.self.view_is c.requires.within in
    let few = c.self.invariant.few in
    let whole = c.self.invariant.whole in
    let words = c.self.inside.words.items in
    let place = c.args.place in
    let word = get_or_read words (place / 64) c.index.result.now (omega arith) c.index.ensures 0 in
    let flag : get_or c.args.self.now place false ≡ is_set words place = sym (ap (λ (l : List Bool). get_or l place false) c.self.view_is) ∙ flag-is c.self.inside.len words c.self.inside.some c.self.invariant place in
    elim (cases_Bool (c.in-Some.bit == place % 64)) [
      | inl same ↦
          same ∙ sym (flag ∙ flag-by words place c.index.result.now 1 (sym word) (ap (bit_at c.index.result.now) (sym (eqb-true c.in-Some.bit (place % 64) same)) ∙ c.in-Some.ensures.here))
      | inr other ↦ (
          let apart = eqb-false c.in-Some.bit (place % 64) other in
          let from = c.in-Some.ensures.within.0 in
          other ∙ sym (flag ∙ flag-by words place c.index.result.now 0 (sym word) (c.in-Some.ensures.before (place % 64) (omega arith) (omega (arith, from, apart)))))
    ]

pub returns-in-None : goal.returns-in-None
returns-in-None c =
    let low = low-place c.self.inside.len c.self.inside.words.items c.args.self.now c.args.place c.self.view_is c.requires.within in
    let few = c.self.invariant.few in
    let whole = c.self.invariant.whole in
    let words = c.self.inside.words.items in
    let place = c.args.place in
    let word = get_or_read words (place / 64) c.index.result.now (omega arith) c.index.ensures 0 in
    let flag : get_or c.args.self.now place false ≡ is_set words place = sym (ap (λ (l : List Bool). get_or l place false) c.self.view_is) ∙ flag-is c.self.inside.len words c.self.inside.some c.self.invariant place in
    sym (flag ∙ flag-by words place c.index.result.now 0 (sym word) (c.in-None.ensures.none refl (place % 64) (omega arith) (omega arith)))
