use Rattle.std.proofs.Common.{◌≡◌, true}
use Rattle.cfdp_entity.specs.Entity.{is_forgotten}
use Rattle.cfdp_station.specs.Station.{KeepsLink}
use Rattle.any_order.specs.Restoring.{ForgetsOnly}
use Rattle.any_order.proofs.Forgetting.{AreStill, WereForgotten}
use Rattle.any_order.proofs.restoring.forget_all.Given as goal

abbrev pub invariant-loop-source : goal.invariant-loop-source
invariant-loop-source g l = record {
  forgets : ForgetsOnly (λ id. is_forgotten l.killed.entity.state id ≡ true) l.initial.station.entity.state l.station.entity.state;
  still : AreStill l.killed.entity.state l.source-iterator l.station.entity.state;
  were : WereForgotten l.killed.entity.state l.source-iterator;
  link : KeepsLink l.initial.station l.station;
}
