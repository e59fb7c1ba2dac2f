-- The deadlines at the index are the written ones.
use Rattle.std.proofs.Common.{◌≡◌, sym, ap, ◌∙◌}
use Rattle.std.specs.Map.{values_of}
use Rattle.std.proofs.lemmas.Option.{get_or_from_slice_get}
use Rattle.indexmap.specs.IndexMap.{set_value_at}
use Rattle.cfdp_timers.specs.Entries.{no_deadlines, deadlines_in, with_deadline}
use Rattle.cfdp_timers.proofs.entries.write.Goals as goal

pub returns-in-Some : goal.returns-in-Some
returns-in-Some c =
    let es = c.args.entries.now.entries in
    let place = c.args.place in
    let read : deadlines_in es place ≡ c.in-Some.deadlines.now = get_or_from_slice_get (values_of es) place c.in-Some.deadlines.now no_deadlines (sym c.in-Some.ensures.value) in
    let wrote : c.set.new.self ≡ with_deadline (deadlines_in es place) c.args.kind c.args.deadline = c.set.ensures ∙ ap (λ d. with_deadline d c.args.kind c.args.deadline) (sym read) in
    record { entries = ap (set_value_at es place) wrote; deadlines = wrote }
