use Rattle.cfdp_header.proofs.Laws.{read_fits}
use Rattle.cfdp_header.proofs.a_header_read_can_be_written.Goals as goal

pub returns : goal.returns
returns c = read_fits
