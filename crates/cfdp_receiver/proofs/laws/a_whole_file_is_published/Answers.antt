use Rattle.cfdp_receiver.proofs.Facts.{step-ends}
use Rattle.cfdp_receiver.proofs.laws.a_whole_file_is_published.Goals as goal

pub returns : goal.returns
returns c stored input m files r = (step-ends c.a_set_is_what_it_holds.ensures.range stored files m r input).publishes
