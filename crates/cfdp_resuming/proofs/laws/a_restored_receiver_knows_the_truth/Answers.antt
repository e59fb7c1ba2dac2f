use Rattle.cfdp_resuming.proofs.Receiver.{restored-sound}
use Rattle.cfdp_resuming.proofs.laws.a_restored_receiver_knows_the_truth.Goals as goal

pub returns : goal.returns
returns c = restored-sound
