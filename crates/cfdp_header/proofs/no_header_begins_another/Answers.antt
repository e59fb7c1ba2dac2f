use Rattle.cfdp_header.proofs.Laws.{one_form}
use Rattle.cfdp_header.proofs.no_header_begins_another.Goals as goal

pub returns : goal.returns
returns c = one_form
