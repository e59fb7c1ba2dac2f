use Rattle.link_sim.specs.Observed.{seen}
use Rattle.link_sim.specs.Settling.{LeadsTo}
use Rattle.link_sim.specs.Work.{world_work}
use Rattle.link_sim.proofs.Ways.Sendings.{PolledSoFar}
use Rattle.link_sim.proofs.world.World.poll_all.Given as goal

abbrev pub invariant-loop : goal.invariant-loop
invariant-loop g l = record {
  leads : LeadsTo (seen l.initial.self) (seen l.self);
  polled : PolledSoFar l.side l.initial.self l.self;
}

abbrev pub decreases-loop : goal.decreases-loop
decreases-loop g l = world_work l.self
