use Rattle.cfdp_report.proofs.HexNumbers.{eight_digits}
use Rattle.cfdp_report.proofs.number.HexNumberDisplay.fmt.Goals as goal

pub returns-clause-writes : goal.returns-clause-writes
returns-clause-writes g c = rw (c.laid_out.ensures, c.in_radix.ensures, eight_digits _) at c.write.ensures.writes
