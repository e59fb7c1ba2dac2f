use Rattle.link_stack.proofs.Grown.{carries, carried}
use Rattle.link_stack.proofs.laws.a_packet_carries_its_pdu.Goals as goal

pub returns-clause-whole : goal.returns-clause-whole
returns-clause-whole c = carries

pub returns-clause-carried : goal.returns-clause-carried
returns-clause-carried c = carried
