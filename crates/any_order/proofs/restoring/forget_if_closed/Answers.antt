use Rattle.std.proofs.Common.{◌≡◌, refl}
use Rattle.cfdp_header.specs.declared.value.TransactionId.{TransactionId}
use Rattle.cfdp_entity.specs.Restoring.{record_kept}
use Rattle.any_order.specs.Restoring.{IsOfClosed}
use Rattle.any_order.proofs.Forgetting.{forgets-none, only-more}
use Rattle.any_order.proofs.restoring.forget_if_closed.Goals as goal

pub returns-then-not-is_closed_sender-clause-forgets : goal.returns-then-not-is_closed_sender-clause-forgets
returns-then-not-is_closed_sender-clause-forgets g c =
    forgets-none (λ (q : TransactionId). (q ≡ c.args.id) × IsOfClosed (record_kept (c.args.id, c.args.kept.now)).1) _ _ refl

pub returns-in_err-forget-clause-forgets : goal.returns-in_err-forget-clause-forgets
returns-in_err-forget-clause-forgets g c =
    only-more (λ (q : TransactionId). q ≡ c.args.id) (λ (q : TransactionId). (q ≡ c.args.id) × IsOfClosed (record_kept (c.args.id, c.args.kept.now)).1) _ _
    (λ q same. (same, c.is_closed_sender.ensures c.args.id c.if-not-is_closed_sender.false)) c.in_err-forget.ensures.forgets

pub returns-clause-forgets : goal.returns-clause-forgets
returns-clause-forgets g c =
    only-more (λ (q : TransactionId). q ≡ c.args.id) (λ (q : TransactionId). (q ≡ c.args.id) × IsOfClosed (record_kept (c.args.id, c.args.kept.now)).1) _ _
    (λ q same. (same, c.is_closed_sender.ensures c.args.id c.if-not-is_closed_sender.false)) c.forget.ensures.forgets
