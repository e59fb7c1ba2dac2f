use Rattle.std.proofs.Common.{[], refl}
use Rattle.std.proofs.lemmas.List.{take_more}
use Rattle.link_sim.proofs.Events.Happening.{happens-more}
use Rattle.link_sim.proofs.world.apply_all.Goals as goal

pub loop-event-init : goal.loop-event-init
loop-event-init g c = ([], refl)

pub loop-event-preserved : goal.loop-event-preserved
loop-event-preserved g c =
    rw (take_more c.args.events.now c.loop-event.event-index c.event-item.result c.loop-event-test.true, ← c.event-item.is)
    (happens-more _ c.event-item.result _ _ _ _ c.loop-event.invariant c.in_ok-apply.ensures.tries.steps)
