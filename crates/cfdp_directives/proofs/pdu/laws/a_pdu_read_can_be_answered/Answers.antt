use Rattle.cfdp_directives.proofs.Spelling.{answered}
use Rattle.cfdp_directives.proofs.pdu.laws.a_pdu_read_can_be_answered.Goals as goal

pub returns : goal.returns
returns c = answered
