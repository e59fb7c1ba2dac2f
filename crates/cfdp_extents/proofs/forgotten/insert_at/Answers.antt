use Rattle.std.proofs.Common.{◌≡◌, ℕ, zero, suc, List, [], ◌∷◌, Some, slice_get, sym, ap, ◌∙◌}
use Rattle.std.specs.FinSet as set
use Rattle.std.specs.Map.{values_of}
use Rattle.std.proofs.lemmas.Option.{get_or_from_slice_get}
use Rattle.indexmap.specs.IndexMap.{set_value_at}
use Rattle.cfdp_extents.proofs.Last.{on_err}
use Rattle.cfdp_extents.specs.Forgotten.{NumberSet, numbers_at}
use Rattle.cfdp_extents.proofs.forgotten.insert_at.Goals as goal

kept : (es : List (ℕ × NumberSet)) (place : ℕ) (s : NumberSet) → slice_get (values_of es) place ≡ Some s → set_value_at es place s ≡ es
kept [] place s at = absurd cc
kept (e ∷ es) zero s at = let is : e.1 ≡ s = cc in λ i. (e.0, sym is i) ∷ es
kept (e ∷ es) (suc n) s at = ap (λ l. e ∷ l) (kept es n s at)

pub returns-in-Some-clause-err : goal.returns-in-Some-clause-err
returns-in-Some-clause-err c = on_err c.insert.result
    (λ same. ap (set_value_at c.args.by_source.now.entries c.args.place) same ∙ kept c.args.by_source.now.entries c.args.place c.in-Some.numbers.now (sym c.in-Some.ensures.value)) c.insert.ensures.err

pub returns-in-Some-clause-held : goal.returns-in-Some-clause-held
returns-in-Some-clause-held c = λ held.
    let read : numbers_at c.args.by_source.now.entries c.args.place ≡ c.in-Some.numbers.now
    = get_or_from_slice_get (values_of c.args.by_source.now.entries) c.args.place c.in-Some.numbers.now set.empty (sym c.in-Some.ensures.value) in
    c.insert.ensures.held (ap (λ (s : NumberSet). set.contains s c.args.number) (sym read) ∙ held)
