use Rattle.std.proofs.Common.{subst}
use Rattle.link_sim.specs.Clean.{AllComplete, IsClean}
use Rattle.link_sim.specs.Settling.{IsSettled}
use Rattle.link_sim.specs.World.State.{WorldState}
use Rattle.link_sim.proofs.world.World.show_completion.Goals as goal

pub returns : goal.returns
returns g c =
    subst (λ (w : WorldState). IsSettled w → IsClean w → AllComplete w) c.self.view_is
    (λ settled clean. c.events_keep_the_promises.ensures.completes c.self.inside.stations c.self.invariant.0 c.self.invariant.1 c.show_rest.ensures settled clean)
