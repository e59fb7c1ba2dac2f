use Rattle.std.proofs.Common.{subst}
use Rattle.cfdp_directives.specs.User.Put.{Put}
use Rattle.link_sim.specs.Found.{HasExchange}
use Rattle.link_sim.specs.Runs.{Exchange}
use Rattle.link_sim.specs.Settling.{IsSettled}
use Rattle.link_sim.specs.Stages.{IsAtRest}
use Rattle.link_sim.specs.World.State.{WorldState}
use Rattle.station_pair.specs.declared.side.Side.{Side}
use Rattle.link_sim.proofs.Found.Ends.{settled-rests}
use Rattle.link_sim.proofs.world.World.show_rest.Goals as goal

pub returns : goal.returns
returns g c =
    subst (λ (w : WorldState). IsSettled w → (s : Side) (put : Put) (e : Exchange) → HasExchange s put w e → IsAtRest e) c.self.view_is
    (λ settled s put e has. settled-rests s put c.self.inside.stations c.self.invariant.0 e has settled c.show_rest.ensures)
