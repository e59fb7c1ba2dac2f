use Rattle.std.proofs.Common.{w16, Fits, arith}
use Rattle.std.proofs.lemmas.Simd.{Each1-get_or}
use Rattle.cfdp_directives.proofs.Lanes.{less_at}
use Rattle.cfdp_directives.proofs.pdu.checksum.less.Goals as goal

pub returns : goal.returns
returns c j h = less_at c.args.all c.args.odd c.fits-all.0 c.fits-odd.0 j h (Each1-get_or (Fits w16) c.args.all j 0 (omega (arith, c.fits-all.0)) c.fits-all.1).fits
