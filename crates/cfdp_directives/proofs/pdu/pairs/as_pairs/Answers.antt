use Rattle.std.proofs.Common.{arith}
use Rattle.cfdp_directives.proofs.Ranges.{pairs_text}
use Rattle.cfdp_directives.proofs.pdu.pairs.as_pairs.Goals as goal

pub returns-clause-text : goal.returns-clause-text
returns-clause-text c = pairs_text c.args.large c.args.octets.now (λ i. omega (arith, c.type_inv.octets i)) c.requires
