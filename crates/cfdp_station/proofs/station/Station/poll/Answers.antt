use Rattle.std.proofs.Common.{◌≡◌, ◌<◌, ◌↔◌, IfOk, subst}
use Rattle.cfdp_station.specs.Polling.{next_len, next_room}
use Rattle.cfdp_station.specs.Station.{StationState}
use Rattle.cfdp_station.specs.declared.polled.Polled.TheVariants.{Full}
use Rattle.cfdp_station.proofs.Lent.{full-by}
use Rattle.cfdp_station.proofs.station.Station.poll.Goals as goal

pub returns-clause-full : goal.returns-clause-full
returns-clause-full g c =
    subst (λ (v : StationState). IfOk c.move_one.result (λ answer. (answer ≡ Full) ↔ (next_room v.entity.state v.down < next_len v.entity.state))) c.self.view_is
    (full-by c.move_one.result c.self.inside.entity c.move_one.new.entity c.self.inside.down c.move_one.new.down c.move_one.ensures.moves c.move_one.ensures.shows)
