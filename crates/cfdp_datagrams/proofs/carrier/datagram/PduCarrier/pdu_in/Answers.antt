use Rattle.std.proofs.Common.{◌≡◌, ◌≤◌, ℕ, List, length, subst}
use Rattle.space_packet.specs.Packet.{SpellsPacket}
use Rattle.space_packet.specs.declared.packet.PacketType.{PacketType}
use Rattle.cfdp_datagrams.specs.Carrier.{Carries, carrying}
use Rattle.cfdp_datagrams.specs.declared.carrier.datagram.PduCarrier.{PduCarrier}
use Rattle.cfdp_datagrams.proofs.carrier.datagram.PduCarrier.pdu_in.Goals as goal

pub returns-in-Packets-clause-only : goal.returns-in-Packets-clause-only
returns-in-Packets-clause-only c pdu carried =
    let packet : (packet_type : PacketType) × (count : ℕ) × (header : List ℕ) × (length header ≡ c.in-Packets.form.peer_secondary_header) × (1 ≤ length pdu) × SpellsPacket (carrying packet_type c.args.apid count header pdu) c.args.datagram.now =
    subst (λ (k : PduCarrier). Carries k c.args.apid pdu c.args.datagram.now) c.in-Packets.is carried in
    c.pdu_of_packet.ensures.only packet.0 packet.1 packet.2 pdu packet.3 packet.4 packet.5
