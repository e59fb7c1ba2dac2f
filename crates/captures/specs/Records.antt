-- The packet records of a pcap file (draft-ietf-opsawg-pcap, 5), and what it begins with (4).
use Rattle.std.specs.Prelude.{◌≡◌, ℕ, ◌+◌, ◌%◌, ◌≤◌, ◌==◌, ◌&&◌, ◌||◌, Bool, nat_lt, if◌then◌else◌, List, length, take, drop, Option, Some, None}
use Rattle.captures.specs.declared.fault.CaptureFault.{CaptureFault}
use Rattle.captures.specs.declared.fault.CaptureFault.TheVariants.{CutOff, BadVersion}
use Rattle.captures.specs.declared.order.ByteOrder.{ByteOrder}
use Rattle.captures.specs.declared.packet.Interface.{Interface}
use Rattle.captures.specs.Numbers.{number, short}
use Rattle.captures.specs.Packets.{PacketText}

-- The text begins with a record of this packet, of this link type, and the rest stands after it.
-- The record is a timestamp of 8 octets, the captured packet length, the original packet length,
-- and the packet.
pub record SpellsRecord (order : ByteOrder) (link : ℕ) (packet : PacketText)
    (text rest : List ℕ) : Type 0 where
  pub inside : 16 + number order text 8 ≤ length text
  pub link_type : packet.link_type ≡ link
  pub original : packet.original ≡ number order text 12
  pub octets : packet.octets ≡ take (number order text 8) (drop 16 text)
  pub behind : rest ≡ drop (16 + number order text 8) text

-- what is wrong with a text if it begins with none
abbrev pub record_fault : ByteOrder → List ℕ → Option CaptureFault
record_fault order text =
    if nat_lt (length text) 16 then Some CutOff
    else if nat_lt (length text) (16 + number order text 8) then Some CutOff
    else None

-- the magic number of a file in which numbers have this order: of times in microseconds, or in
-- nanoseconds
abbrev pub has_magic : ByteOrder → List ℕ → Bool
has_magic order text =
    (number order text 0 == 0xA1B2C3D4) || (number order text 0 == 0xA1B23C4D)

-- The text begins with the header of such a file (4), of this interface, and the rest stands after
-- it. The header is the magic number, the version 2.4, 8 octets, the snap length, and the link
-- type in the lower two octets of the last four.
pub record SpellsHeader (order : ByteOrder) (interface : Interface) (text rest : List ℕ) : Type 0
  where
    pub inside : 24 ≤ length text
    pub version : (short order text 4 ≡ 2) × (short order text 6 ≡ 4)
    pub snap_len : interface.snap_len ≡ number order text 16
    pub link_type : interface.link_type ≡ number order text 20 % 65536
    pub behind : rest ≡ drop 24 text

-- what is wrong with a text if it begins with none
abbrev pub header_fault : ByteOrder → List ℕ → Option CaptureFault
header_fault order text =
    if nat_lt (length text) 24 then Some CutOff
    else if (short order text 4 == 2) && (short order text 6 == 4) then None
    else Some BadVersion
