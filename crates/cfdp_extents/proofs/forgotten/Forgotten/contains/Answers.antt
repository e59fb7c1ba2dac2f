use Rattle.std.proofs.Common.{◌≡◌, Option, Some, None, is_some, false, true≢false, refl, sym, ap, ◌∙◌}
use Rattle.std.specs.FinSet as set
use Rattle.cfdp_extents.specs.Forgotten.{IdSet, numbers_at}
use Rattle.cfdp_extents.proofs.Sets.{contains-ids, any-at, any-nowhere, position-at}
use Rattle.cfdp_extents.proofs.forgotten.Forgotten.contains.Goals as goal

no_value : {X : Type 0} (o : Option X) → is_some o ≡ false → o ≡ None
no_value None e = refl
no_value (Some d) e = absurd (true≢false e)

pub returns-in_default : goal.returns-in_default
returns-in_default c =
    let es = c.self.inside.by_source.entries in
    sym (contains-ids es c.args.id ∙ any-nowhere c.args.id es (no_value _ (sym c.in_default.ensures.found))) ∙ ap (λ (s : IdSet). set.contains s c.args.id) c.self.view_is

pub returns : goal.returns
returns c =
    let es = c.self.inside.by_source.entries in
    c.holds.ensures
    ∙ sym (contains-ids es c.args.id ∙ any-at c.args.id es c.in-Some.place (numbers_at es c.in-Some.place) c.in-Some.ensures.unique (position-at c.args.id.source es c.in-Some.place (sym c.in-Some.ensures.index)))
    ∙ ap (λ (s : IdSet). set.contains s c.args.id) c.self.view_is
