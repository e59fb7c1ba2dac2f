use Rattle.space_packet.proofs.Spelling.{a_packet_has_one_spelling}
use Rattle.space_packet.proofs.laws.a_packet_has_one_spelling.Goals as goal

pub returns : goal.returns
returns c = a_packet_has_one_spelling
