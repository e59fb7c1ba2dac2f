use Rattle.cfdp_resuming.proofs.Sender.{restored-sends}
use Rattle.cfdp_resuming.proofs.laws.a_restored_sender_sends_its_put.Goals as goal

pub returns : goal.returns
returns c = restored-sends
