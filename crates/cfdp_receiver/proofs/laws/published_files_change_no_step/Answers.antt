use Rattle.cfdp_receiver.proofs.Alike.{step-alike, opens-alike}
use Rattle.cfdp_receiver.proofs.laws.published_files_change_no_step.Goals as goal

pub returns-clause-step : goal.returns-clause-step
returns-clause-step c stored input m files other r = step-alike files other stored input m r

pub returns-clause-opened : goal.returns-clause-opened
returns-clause-opened c stored large files other addressing = opens-alike files other stored large addressing
