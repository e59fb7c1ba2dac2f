use Rattle.std.proofs.Common.{map}
use Rattle.cfdp_entity.specs.Entity.{EntityState}
use Rattle.cfdp_entity.specs.Restoring.{all_kept, record_kept}
use Rattle.cfdp_station.specs.Station.{KeepsLink}
use Rattle.any_order.specs.Restoring.{RestoresAll}
use Rattle.any_order.proofs.restoring.restore_records.Given as goal

-- once what is left is restored, all is
abbrev pub invariant-loop-id : goal.invariant-loop-id
invariant-loop-id g l = record {
  leads : (final : EntityState) → RestoresAll (map record_kept l.id-iterator) l.station.entity.state final
      → RestoresAll (all_kept l.killed.entity.state.table) l.initial.station.entity.state final;
  link : KeepsLink l.initial.station l.station;
}
