use Rattle.cfdp_sender.proofs.Ends.{step-once}
use Rattle.cfdp_sender.proofs.laws.a_sender_finishes_once.Goals as goal

pub returns : goal.returns
returns c = step-once
