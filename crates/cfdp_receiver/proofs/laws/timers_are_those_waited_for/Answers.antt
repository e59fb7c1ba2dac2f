use Rattle.cfdp_receiver.proofs.FactsTimers.{armed-own, clear-own, others-keep}
use Rattle.cfdp_receiver.proofs.laws.timers_are_those_waited_for.Goals as goal

pub returns-clause-armed : goal.returns-clause-armed
returns-clause-armed c = armed-own c.what_is_waited_for_is_armed.ensures

pub returns-clause-clear : goal.returns-clause-clear
returns-clause-clear c = clear-own c.what_is_waited_for_is_armed.ensures

pub returns-clause-others : goal.returns-clause-others
returns-clause-others c = others-keep c.what_is_waited_for_is_armed.ensures
