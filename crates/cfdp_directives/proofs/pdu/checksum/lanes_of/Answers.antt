use Rattle.cfdp_directives.proofs.Lanes.{lane_is}
use Rattle.cfdp_directives.proofs.pdu.checksum.lanes_of.Goals as goal

pub returns : goal.returns
returns c = lane_is c.args.block c.fits-block.0 c.fits-block.1
