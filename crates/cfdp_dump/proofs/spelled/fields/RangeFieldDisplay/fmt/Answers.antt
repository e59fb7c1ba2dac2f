use Rattle.std.proofs.Common.{sym}
use Rattle.std.proofs.Output.{has_written_of_eq}
use Rattle.cfdp_dump.proofs.FieldTexts.{range_is}
use Rattle.cfdp_dump.proofs.spelled.fields.RangeFieldDisplay.fmt.Goals as goal

pub returns-clause-writes : goal.returns-clause-writes
returns-clause-writes g c =
    λ plain ok. has_written_of_eq _ _ _ _ _ (sym (range_is c.args.self.now.0 c.args.self.now.1)) (c.write.ensures.writes plain ok)
