use Rattle.std.proofs.Common.{sym}
use Rattle.std.proofs.Output.{has_written_of_eq}
use Rattle.cfdp_dump.proofs.FieldTexts.{code_is}
use Rattle.cfdp_dump.proofs.spelled.field.CodeFieldDisplay.fmt.Goals as goal

pub returns-clause-writes : goal.returns-clause-writes
returns-clause-writes g c =
    λ plain ok. has_written_of_eq _ _ _ _ _ (sym (code_is c.args.self.now.0.now c.args.self.now.1 c.args.self.now.2.now c.args.self.now.3.now)) (c.write.ensures.writes plain ok)
