use Rattle.cfdp_receiver.proofs.Facts.{step-ends}
use Rattle.cfdp_receiver.proofs.laws.a_transaction_is_finished_once.Goals as goal

pub returns-clause-outcome : goal.returns-clause-outcome
returns-clause-outcome c stored input m files r = (step-ends c.a_set_is_what_it_holds.ensures.range stored files m r input).ends
