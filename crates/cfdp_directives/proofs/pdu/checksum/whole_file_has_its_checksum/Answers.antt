use Rattle.cfdp_directives.proofs.Sums.{at_once}
use Rattle.cfdp_directives.proofs.pdu.checksum.whole_file_has_its_checksum.Goals as goal

pub returns : goal.returns
returns c = at_once
