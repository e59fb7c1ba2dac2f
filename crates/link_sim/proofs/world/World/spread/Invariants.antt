use Rattle.link_sim.specs.Observed.{seen}
use Rattle.link_sim.specs.Settling.{LeadsTo}
use Rattle.link_sim.specs.Work.{world_work}
use Rattle.link_sim.proofs.Ways.Sendings.{SentSoFar}
use Rattle.link_sim.proofs.world.World.spread.Given as goal

abbrev pub invariant-loop-self : goal.invariant-loop-self
invariant-loop-self g l = record {
  leads : LeadsTo (seen l.initial.self) (seen l.self);
  sent : SentSoFar l.side l.initial.self l.self;
}

abbrev pub decreases-loop-self : goal.decreases-loop-self
decreases-loop-self g l = world_work l.self
