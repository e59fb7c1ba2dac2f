use Rattle.cfdp_header.proofs.Laws.{spelled}
use Rattle.cfdp_header.proofs.written_header_is_read.Goals as goal

pub returns : goal.returns
returns c = spelled
