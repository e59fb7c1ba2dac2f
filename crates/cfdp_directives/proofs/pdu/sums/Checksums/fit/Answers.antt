use Rattle.std.proofs.Common.{arith}
use Rattle.cfdp_directives.proofs.TypesOfSums.{sums_fit}
use Rattle.cfdp_directives.proofs.pdu.sums.Checksums.fit.Goals as goal

pub returns : goal.returns
returns c = sums_fit c.args.self.now (omega arith) (omega arith) (omega arith) (omega arith)
