-- One more transaction.
use Rattle.std.proofs.Common.{◌+◌, ◌*◌, sym, ap, subst, ◌∙◌}
use Rattle.cfdp_timers.specs.Entries.{earlier}
use Rattle.cfdp_timers.proofs.Bounded.{AreNoEarlier, no_earlier-more}
use Rattle.cfdp_timers.proofs.walk.earliest_in.Goals as goal

pub loop-place-preserved : goal.loop-place-preserved
loop-place-preserved c =
    let es = c.args.entries.now.entries in
    let place = c.loop-place.place in
    subst (AreNoEarlier es (64 * c.args.block) (place + 1)) (sym (c.earlier-earliest.ensures ∙ ap (earlier c.loop-place.earliest) c.earliest_at.ensures))
    (no_earlier-more es (64 * c.args.block) place c.loop-place.earliest c.loop-place.invariant)
