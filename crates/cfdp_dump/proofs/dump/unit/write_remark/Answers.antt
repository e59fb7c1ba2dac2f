use Rattle.std.proofs.Common.{refl}
use Rattle.cfdp_dump.specs.Dump.Told.{Says, remark_text}
use Rattle.cfdp_dump.proofs.Runs.{told_text}
use Rattle.cfdp_dump.proofs.dump.unit.write_remark.Goals as goal

pub returns : goal.returns
returns g c = told_text c.args._request (Says c.args.remark) (remark_text c.args.remark) _ _ _ refl c.writeln.ensures.bytes
