use Rattle.cfdp_sender.proofs.Told.{source-fault}
use Rattle.cfdp_sender.proofs.laws.a_source_fault_comes_of_a_failed_read.Goals as goal

pub returns : goal.returns
returns c = source-fault
