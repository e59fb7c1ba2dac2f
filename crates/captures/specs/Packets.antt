-- What a capture has of packets, without where it lies in memory.
use Rattle.std.specs.Prelude.{ℕ, List}
use Rattle.captures.specs.declared.order.ByteOrder.{ByteOrder}
use Rattle.captures.specs.declared.packet.Interface.{Interface}
use Rattle.captures.specs.declared.packet.CapturedPacket.{CapturedPacket}
use Rattle.captures.specs.declared.reader.PlacedFault.{PlacedFault}
use Rattle.captures.specs.declared.reader.Item.{Item}
use Rattle.captures.specs.declared.reader.Item.TheVariants as items
use Rattle.captures.specs.declared.reader.Next.{Next}

-- a packet: the link type of its interface, how many octets it had on the wire, and those captured
pub record PacketText : Type 0 where
  pub link_type : ℕ
  pub original : ℕ
  pub octets : List ℕ

abbrev pub packet_text : CapturedPacket → PacketText
packet_text p = record {
  link_type = p.link_type;
  original = p.original;
  octets = p.octets.now;
}

-- what stands at the front of a text: a packet, something that is passed over, or nothing that can
-- be read, for this fault
pub data ItemText : Type 0 where
  Captured : (packet : PacketText) → ItemText
  PassedOver : ItemText
  Faulty : (fault : PlacedFault) → ItemText

abbrev pub item_text : Item → ItemText
item_text (items.Packet packet) = Captured (packet_text packet)
item_text items.Passed = PassedOver
item_text (items.Faulty fault) = Faulty fault

-- what was read so far of a capture: what stands next, the order of the octets of its numbers, and
-- the interfaces that were described, in order
pub record CaptureState : Type 0 where
  pub next : Next
  pub order : ByteOrder
  pub interfaces : List Interface
