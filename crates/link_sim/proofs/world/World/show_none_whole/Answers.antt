use Rattle.std.proofs.Common.{subst}
use Rattle.aos_frame.specs.declared.config.Lane.{Lane}
use Rattle.link_sim.specs.World.State.{WorldState}
use Rattle.link_sim.specs.World.Steps.{NoneWhole}
use Rattle.station_pair.specs.declared.side.Side.{Side}
use Rattle.link_sim.proofs.world.World.show_none_whole.Goals as goal

pub returns : goal.returns
returns g c = subst (λ (w : WorldState). (s : Side) (l : Lane) → NoneWhole s l w) c.self.view_is (λ s l. (c.show_rest.ensures s l).none_waits)
