use Rattle.cfdp_directives.proofs.Lanes.{high_at}
use Rattle.cfdp_directives.proofs.pdu.checksum.high.Goals as goal

pub returns : goal.returns
returns c = high_at c.args.lanes c.fits-lanes.0
