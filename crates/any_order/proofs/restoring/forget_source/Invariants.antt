use Rattle.cfdp_station.specs.Station.{KeepsLink}
use Rattle.any_order.specs.Restoring.{ForgetsOnly}
use Rattle.any_order.proofs.Forgetting.{AreAmong, AreLeft, IsNumber}
use Rattle.any_order.proofs.restoring.forget_source.Given as goal

abbrev pub invariant-loop-start : goal.invariant-loop-start
invariant-loop-start g l = record {
  forgets : ForgetsOnly (IsNumber l.source l.numbers) l.initial.station.entity.state l.station.entity.state;
  left : AreLeft l.source l.numbers l.start-iterator l.station.entity.state;
  among : AreAmong l.numbers l.start-iterator;
  link : KeepsLink l.initial.station l.station;
}
