use Rattle.std.proofs.Common.{◌≡◌, ◌⊎◌, true, inl, inr}
use Rattle.cfdp_header.specs.declared.value.TransactionId.{TransactionId}
use Rattle.cfdp_entity.specs.Entity.{EntityState, is_forgotten}
use Rattle.cfdp_entity.specs.Restoring.{all_kept}
use Rattle.any_order.specs.Restoring.{IsClosedIn}
use Rattle.any_order.proofs.Forgetting.{only-both}
use Rattle.any_order.proofs.restoring.restore_all.Goals as goal

pub returns-clause-restored : goal.returns-clause-restored
returns-clause-restored g c =
    let killed : EntityState = c.args.killed.now.entity.state in
    let one = c.in_ok-forget_all.ensures in
    let two = c.in_ok-forget_closed.ensures in
    let begun : EntityState = c.forget_closed.new.station.entity.state in (
      begun,
      (
        only-both (λ (id : TransactionId). is_forgotten killed id ≡ true) (IsClosedIn (all_kept killed.table)) (λ (id : TransactionId). (is_forgotten killed id ≡ true) ⊎ IsClosedIn (all_kept killed.table) id)
            c.args.station.now.entity.state c.forget_all.new.station.entity.state begun (λ id is. inl is) (λ id is. inr is) one.forgets two.forgets,
        (λ id has. two.forgets.forgets.more id (one.all id has), c.in_ok-restore_records.ensures.restored),
      ),
    )
