use Rattle.std.proofs.Common.{take}
use Rattle.link_sim.specs.Running.{Happens}
use Rattle.link_sim.proofs.world.apply_all.Given as goal

-- the events so far happened
abbrev pub invariant-loop-event : goal.invariant-loop-event
invariant-loop-event g l = Happens (take l.event-index l.events) l.fn.world l.world
