use Rattle.std.proofs.Common.{subst}
use Rattle.link_sim.specs.Observed.{seen}
use Rattle.link_sim.specs.Theorem.{HoldsAt}
use Rattle.link_sim.specs.World.State.{WorldState}
use Rattle.link_sim.proofs.world.World.show_what_holds.Goals as goal

pub returns : goal.returns
returns g c s = subst (λ (w : WorldState). HoldsAt s (seen w)) c.self.view_is (c.events_keep_the_promises.ensures.holds c.self.inside.stations s c.self.invariant.0)
