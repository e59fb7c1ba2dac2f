use Rattle.std.proofs.Common.{◌≡◌, ◌≤◌, ◌<◌, true, false}
use Rattle.link_sim.specs.Observed.{seen}
use Rattle.link_sim.specs.Settling.{LeadsTo}
use Rattle.link_sim.specs.Work.{world_work}
use Rattle.link_sim.proofs.Clean.Causes.{OnSoFar}
use Rattle.link_sim.proofs.world.World.repeat.Given as goal

abbrev pub invariant-loop-happened : goal.invariant-loop-happened
invariant-loop-happened g l = record {
  leads : LeadsTo (seen l.initial.self) (seen l.self);
  most : world_work l.self ≤ world_work l.initial.self;
  less : l.happened ≡ true → world_work l.self < world_work l.initial.self;
  same : l.happened ≡ false → l.self ≡ l.initial.self;
  well : OnSoFar l.event l.event l.initial.self l.self;
}

abbrev pub decreases-loop-happened : goal.decreases-loop-happened
decreases-loop-happened g l = world_work l.self
