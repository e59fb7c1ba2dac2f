use Rattle.cfdp_receiver.proofs.FactsDue.{step-owes}
use Rattle.cfdp_receiver.proofs.laws.a_finished_says_what_was_indicated.Goals as goal

pub returns-clause-step : goal.returns-clause-step
returns-clause-step c = step-owes
