use Rattle.std.proofs.Common.{◌∙◌, ap, drop}
use Rattle.cfdp_station.specs.Station.{StationState}
use Rattle.link_sim.specs.World.State.{WorldState, entity_at}
use Rattle.link_sim.proofs.world.World.indications.Goals as goal

pub returns : goal.returns
returns g c =
    c.indications.ensures
    ∙ ap (λ (s : StationState). drop s.entity.state.table.gone s.entity.state.table.told) c.station.ensures
    ∙ ap (λ n. drop n (entity_at c.args.side c.self.inside.stations).table.told) (c.self.invariant.0 c.args.side).all_kept
    ∙ ap (λ (w : WorldState). (entity_at c.args.side w).table.told) c.self.view_is
