use Rattle.std.proofs.Common.{subst}
use Rattle.link_sim.specs.EveryPut.{KeepsPuts}
use Rattle.link_sim.specs.Sound.{IsSound}
use Rattle.link_sim.specs.World.State.{WorldState}
use Rattle.link_sim.proofs.world.World.show_what_is_kept.Goals as goal

pub returns : goal.returns
returns g c = subst (λ (w : WorldState). IsSound w × KeepsPuts w) c.self.view_is (c.self.invariant.0, c.self.invariant.1)
