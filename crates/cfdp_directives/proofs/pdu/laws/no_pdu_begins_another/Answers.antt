use Rattle.cfdp_directives.proofs.Spelling.{one_form}
use Rattle.cfdp_directives.proofs.pdu.laws.no_pdu_begins_another.Goals as goal

pub returns : goal.returns
returns c = one_form
