use Rattle.link_sim.specs.Observed.{seen}
use Rattle.link_sim.specs.Settling.{LeadsTo, first_event}
use Rattle.link_sim.specs.Work.{world_work}
use Rattle.link_sim.proofs.Clean.Causes.{OnSoFar}
use Rattle.link_sim.proofs.world.World.settle_on.Given as goal

abbrev pub invariant-loop : goal.invariant-loop
invariant-loop g l = record {
  leads : LeadsTo (seen l.initial.self) (seen l.self);
  well : OnSoFar first_event first_event l.initial.self l.self;
}

abbrev pub decreases-loop : goal.decreases-loop
decreases-loop g l = world_work l.self
