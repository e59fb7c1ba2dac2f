use Rattle.std.proofs.Common.{◌≡◌, Option, Some, None, is_some, false, true≢false, refl, sym, ap, ◌∙◌}
use Rattle.std.specs.FinSet as set
use Rattle.cfdp_extents.proofs.Last.{on_ok}
use Rattle.cfdp_extents.specs.Forgotten.{IdSet, ids_of, numbers_at}
use Rattle.cfdp_extents.proofs.Sets.{contains-ids, any-at, any-nowhere, any-set, any-push, ids-more, position-at}
use Rattle.cfdp_extents.proofs.forgotten.Forgotten.insert.Goals as goal

no_value : {X : Type 0} (o : Option X) → is_some o ≡ false → o ≡ None
no_value None e = refl
no_value (Some d) e = absurd (true≢false e)

pub returns-in-Some-clause-ok : goal.returns-in-Some-clause-ok
returns-in-Some-clause-ok c =
    let es = c.self.inside.by_source.entries in
    let place = c.in-Some.place in
    let at = position-at c.args.id.source es place (sym c.in-Some.ensures.index) in
    on_ok c.insert_at.result
    (λ is. ap ids_of is ∙ ids-more es _ c.args.id (λ q. any-set q c.args.id es place (numbers_at es place) at) ∙ ap (λ (s : IdSet). set.insert s c.args.id) c.self.view_is)
    c.insert_at.ensures.ok

pub returns-in-Some-clause-held : goal.returns-in-Some-clause-held
returns-in-Some-clause-held c = λ held.
    let es = c.self.inside.by_source.entries in
    let place = c.in-Some.place in
    let at = position-at c.args.id.source es place (sym c.in-Some.ensures.index) in
    c.insert_at.ensures.held (sym (any-at c.args.id es place (numbers_at es place) c.in-Some.ensures.unique at) ∙ sym (contains-ids es c.args.id) ∙ ap (λ (s : IdSet). set.contains s c.args.id) c.self.view_is ∙ held)

pub returns-in-None-clause-ok : goal.returns-in-None-clause-ok
returns-in-None-clause-ok c =
    let es = c.self.inside.by_source.entries in
    on_ok c.insert_first.result
    (λ is. ap ids_of is ∙ ids-more es _ c.args.id (λ q. any-push q c.args.id es) ∙ ap (λ (s : IdSet). set.insert s c.args.id) c.self.view_is)
    c.insert_first.ensures.ok

pub returns-in-None-clause-held : goal.returns-in-None-clause-held
returns-in-None-clause-held c = λ held.
    let es = c.self.inside.by_source.entries in
    absurd (true≢false (sym held ∙ ap (λ (s : IdSet). set.contains s c.args.id) (sym c.self.view_is) ∙ contains-ids es c.args.id ∙ any-nowhere c.args.id es (no_value _ (sym c.in-None.ensures.found))))
