use Rattle.cfdp_sender.proofs.Told.{told-complete}
use Rattle.cfdp_sender.proofs.laws.told_complete_by_a_finished_alone.Goals as goal

pub returns : goal.returns
returns c = told-complete
