use Rattle.space_packet.proofs.Spelling.{written_packet_is_read}
use Rattle.space_packet.proofs.laws.written_packet_is_read.Goals as goal

pub returns : goal.returns
returns c = written_packet_is_read
