use Rattle.cfdp_directives.proofs.Lanes.{plus_at}
use Rattle.cfdp_directives.proofs.pdu.checksum.plus.Goals as goal

pub returns : goal.returns
returns c = plus_at c.args.a c.args.b c.fits-a.0 c.fits-b.0
