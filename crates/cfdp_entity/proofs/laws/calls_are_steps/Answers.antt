use Rattle.cfdp_entity.proofs.Histories.{leads-none, leads-one, leads-more, leads-spoiled, leads-ticked}
use Rattle.cfdp_entity.proofs.laws.calls_are_steps.Goals as goal

pub returns-clause-none : goal.returns-clause-none
returns-clause-none c = leads-none

pub returns-clause-one : goal.returns-clause-one
returns-clause-one c = leads-one

pub returns-clause-more : goal.returns-clause-more
returns-clause-more c = leads-more

pub returns-clause-spoiled : goal.returns-clause-spoiled
returns-clause-spoiled c = leads-spoiled

pub returns-clause-ticked : goal.returns-clause-ticked
returns-clause-ticked c = leads-ticked
