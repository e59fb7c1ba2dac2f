use Rattle.link_sim.specs.Observed.{seen}
use Rattle.link_sim.specs.Settling.{LeadsTo}
use Rattle.link_sim.proofs.Recovery.Rounds.{HasRun}
use Rattle.link_sim.proofs.world.World.recover.Given as goal

abbrev pub invariant-loop-round : goal.invariant-loop-round
invariant-loop-round g l = record {
  leads : LeadsTo (seen l.fn.self) (seen l.self);
  run : HasRun l._round l.fn.self l.self;
}
