use Rattle.promises.proofs.Commits.{receiver-kept, sender-kept}
use Rattle.promises.proofs.resuming.resumes_keep_what_losses_keep.Goals as goal

pub returns-clause-sender : goal.returns-clause-sender
returns-clause-sender c = sender-kept

pub returns-clause-receiver : goal.returns-clause-receiver
returns-clause-receiver c = receiver-kept
