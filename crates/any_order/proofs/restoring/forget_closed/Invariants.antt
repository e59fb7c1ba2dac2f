use Rattle.std.proofs.Common.{map}
use Rattle.cfdp_header.specs.declared.value.TransactionId.{TransactionId}
use Rattle.cfdp_entity.specs.Restoring.{all_kept, record_kept}
use Rattle.cfdp_station.specs.Station.{KeepsLink}
use Rattle.any_order.specs.Restoring.{ForgetsOnly, IsClosedIn}
use Rattle.any_order.proofs.restoring.forget_closed.Given as goal

abbrev pub invariant-loop-id : goal.invariant-loop-id
invariant-loop-id g l = record {
  forgets : ForgetsOnly (IsClosedIn (all_kept l.killed.entity.state.table)) l.initial.station.entity.state l.station.entity.state;
  among : (id : TransactionId) → IsClosedIn (map record_kept l.id-iterator) id → IsClosedIn (all_kept l.killed.entity.state.table) id;
  link : KeepsLink l.initial.station l.station;
}
