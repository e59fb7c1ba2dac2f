use Rattle.cfdp_control.proofs.NamesRead.{printed-read}
use Rattle.cfdp_control.proofs.laws.a_printed_name_is_read_as_itself.Goals as goal

pub returns : goal.returns
returns c = printed-read
