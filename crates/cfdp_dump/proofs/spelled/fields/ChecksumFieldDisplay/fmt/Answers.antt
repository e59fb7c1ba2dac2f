use Rattle.std.proofs.Common.{sym}
use Rattle.std.proofs.Output.{has_written_of_eq}
use Rattle.cfdp_dump.proofs.FieldTexts.{checksum_is}
use Rattle.cfdp_dump.proofs.spelled.fields.ChecksumFieldDisplay.fmt.Goals as goal

pub returns-clause-writes : goal.returns-clause-writes
returns-clause-writes g c =
    λ plain ok. has_written_of_eq _ _ _ _ _ (sym (checksum_is c.args.self.now.0)) (c.write.ensures.writes plain ok)
