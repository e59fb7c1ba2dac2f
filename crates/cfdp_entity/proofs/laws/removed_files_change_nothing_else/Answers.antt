use Rattle.cfdp_entity.proofs.Removing.{ReceivesAlike, may-alike, step-alike, run-alike}
use Rattle.cfdp_entity.proofs.laws.removed_files_change_nothing_else.Goals as goal

pub returns-clause-may : goal.returns-clause-may
returns-clause-may c = may-alike

pub returns-clause-step : goal.returns-clause-step
returns-clause-step c files s st =
    let law = c.published_files_change_no_step.ensures in
    let laws : ReceivesAlike = record { step = law.step; opened = law.opened } in
    step-alike laws files s st

pub returns-clause-steps : goal.returns-clause-steps
returns-clause-steps c files steps st may =
    let law = c.published_files_change_no_step.ensures in
    let laws : ReceivesAlike = record { step = law.step; opened = law.opened } in
    run-alike laws steps files st may
