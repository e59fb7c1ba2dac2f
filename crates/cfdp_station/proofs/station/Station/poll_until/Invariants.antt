-- So many polls found more, and the lanes are as they were.
use Rattle.link_stack.specs.Downward.{KeepsLanes}
use Rattle.cfdp_station.specs.Transmitting.{MovesMore, Times}
use Rattle.cfdp_station.proofs.station.Station.poll_until.Given as goal

abbrev pub invariant-loop-poll : goal.invariant-loop-poll
invariant-loop-poll g l = Times (MovesMore l.until) l._poll l.initial.self l.self
    × KeepsLanes l.initial.self.down l.self.down
