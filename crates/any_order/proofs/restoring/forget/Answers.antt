use Rattle.std.proofs.Common.{◌≡◌, refl, ap}
use Rattle.cfdp_header.specs.declared.value.TransactionId.{TransactionId}
use Rattle.cfdp_entity.specs.Entity.{Counted}
use Rattle.cfdp_station.specs.Station.{StationState}
use Rattle.any_order.proofs.Forgetting.{forgets-none, one-forgotten}
use Rattle.any_order.proofs.restoring.forget.Goals as goal

pub returns-in_default-clause-forgets : goal.returns-in_default-clause-forgets
returns-in_default-clause-forgets g c = forgets-none (λ (q : TransactionId). q ≡ c.args.id) _ _ refl

pub returns-in_err-restore_forgotten-clause-forgets : goal.returns-in_err-restore_forgotten-clause-forgets
returns-in_err-restore_forgotten-clause-forgets g c =
    forgets-none (λ (q : TransactionId). q ≡ c.args.id) _ _ (ap (λ (s : StationState). s.entity.state) c.in_err-restore_forgotten.ensures.err)

pub returns-clause-forgets : goal.returns-clause-forgets
returns-clause-forgets g c = one-forgotten c.args.id c.in-Some.end _ _ c.in-Some.ensures.1 (ap (λ (x : Counted). x.state) c.in_ok-restore_forgotten.ensures.restored)
