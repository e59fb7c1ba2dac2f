use Rattle.cfdp_service.proofs.ClerkLemmas.{what-left}
use Rattle.cfdp_service.proofs.laws.what_is_sent_was_heard_complete.Goals as goal

pub returns : goal.returns
returns g c = what-left g.S.Spool.sent g.S.Spool.failed
