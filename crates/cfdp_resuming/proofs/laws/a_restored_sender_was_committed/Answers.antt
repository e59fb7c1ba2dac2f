use Rattle.std.proofs.Common.{refl, ap}
use Rattle.cfdp_sender.specs.Back.{sent_back}
use Rattle.cfdp_entity.specs.Entity.{EntityState}
use Rattle.cfdp_entity.specs.Seen.{Sends}
use Rattle.cfdp_resuming.proofs.laws.a_restored_sender_was_committed.Goals as goal

pub returns : goal.returns
returns c = λ x y sent old new r stands. (
  Sends (sent_back sent r.sums x),
  (
    ap (λ (e : EntityState). e.table.records) r.restored,
    record { sent = sent; sums = r.sums; is = refl; within = r.may.within; front = r.front stands; cause = r.may.committed.cause },
  ),
)
