use Rattle.mpdu.proofs.Arrived.{arrived_with_span}
use Rattle.mpdu.proofs.laws.a_packet_arrives_with_its_span.Goals as goal

pub returns : goal.returns
returns c = arrived_with_span
