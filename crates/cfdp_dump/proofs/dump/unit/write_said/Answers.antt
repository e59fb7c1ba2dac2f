use Rattle.cfdp_dump.proofs.Runs.{told_none}
use Rattle.cfdp_dump.proofs.dump.unit.write_said.Goals as goal

pub returns-in-None : goal.returns-in-None
returns-in-None g c = rw c.in-None.is (told_none c.args.request _)
