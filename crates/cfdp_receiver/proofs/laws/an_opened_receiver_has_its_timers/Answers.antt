use Rattle.cfdp_receiver.proofs.FactsTimers.{opened-armed, opened-clear, opened-others, none_refused, none_closed}
use Rattle.cfdp_receiver.proofs.laws.an_opened_receiver_has_its_timers.Goals as goal

pub returns-clause-armed : goal.returns-clause-armed
returns-clause-armed c = opened-armed c.timers_are_those_waited_for.ensures.armed c.a_transaction_is_finished_once.ensures.same

pub returns-clause-clear : goal.returns-clause-clear
returns-clause-clear c = opened-clear c.timers_are_those_waited_for.ensures.clear c.a_transaction_is_finished_once.ensures.same

pub returns-clause-others : goal.returns-clause-others
returns-clause-others c = opened-others c.timers_are_those_waited_for.ensures.others c.a_transaction_is_finished_once.ensures.same

pub returns-clause-refused : goal.returns-clause-refused
returns-clause-refused c = none_refused

pub returns-clause-closed : goal.returns-clause-closed
returns-clause-closed c = none_closed
