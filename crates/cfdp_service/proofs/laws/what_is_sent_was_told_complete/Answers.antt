use Rattle.cfdp_service.proofs.ClerkLemmas.{sent-told}
use Rattle.cfdp_service.proofs.laws.what_is_sent_was_told_complete.Goals as goal

pub returns : goal.returns
returns g c = λ short calls first last old new serves. sent-told g.S.Spool.sent g.S.Spool.failed calls old new _ serves.all
