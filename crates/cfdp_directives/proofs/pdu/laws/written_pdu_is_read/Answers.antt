use Rattle.cfdp_directives.proofs.Spelling.{spelled}
use Rattle.cfdp_directives.proofs.pdu.laws.written_pdu_is_read.Goals as goal

pub returns : goal.returns
returns c = spelled
