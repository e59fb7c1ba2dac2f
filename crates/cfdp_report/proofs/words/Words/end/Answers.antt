use Rattle.std.proofs.Common.{sym}
use Rattle.cfdp_report.proofs.Parts.{nothing-parts}
use Rattle.cfdp_report.proofs.words.Words.end.Goals as goal

pub returns-in-Some : goal.returns-in-Some
returns-in-Some c = rw c.in-Some.is (sym (nothing-parts _))
