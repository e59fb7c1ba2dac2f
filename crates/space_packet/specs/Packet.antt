-- What a space packet is, and which octets spell it (CCSDS 133.0-B-2, 4.1).
use Rattle.std.specs.Prelude.{◌≡◌, ℕ, ◌+◌, ◌-◌, ◌*◌, ◌<◌, ◌≤◌, Bool, false, List, ◌++◌, codes, length, drop, replicate, Option, Some, None, nat_lt, ◌==◌, not, if◌then◌else◌}
use Rattle.cfd_bits.specs.Field.{field, octets, flag}
use Rattle.space_packet.specs.declared.error.PacketError.{PacketError}
use Rattle.space_packet.specs.declared.error.PacketError.TheVariants.{Short, Version}
use Rattle.space_packet.specs.declared.packet.Packet.{Packet}
use Rattle.space_packet.specs.declared.packet.PacketType.{PacketType}
use Rattle.space_packet.specs.declared.packet.PacketType.TheVariants.{Telemetry, Telecommand}
use Rattle.space_packet.specs.declared.packet.SequenceFlags.{SequenceFlags}
use Rattle.space_packet.specs.declared.packet.SequenceFlags.TheVariants.{Continuation, First, Last, Unsegmented}

-- the parts of a packet, its body as a list
pub record Parts : Type 0 where
  pub apid : ℕ
  pub packet_type : PacketType
  pub has_secondary_header : Bool
  pub sequence_flags : SequenceFlags
  pub count : ℕ
  pub body : List ℕ

-- the parts of a packet whose body is borrowed
abbrev pub view : Packet → Parts
view p = record {
  apid = p.apid;
  packet_type = p.packet_type;
  has_secondary_header = p.has_secondary_header;
  sequence_flags = p.sequence_flags;
  count = p.count;
  body = p.body.now;
}

-- 4.1.3.3.2, the bit of the packet type
abbrev pub type_bit : PacketType → ℕ
type_bit Telemetry = 0
type_bit Telecommand = 1

-- 4.1.3.4.2, the two bits of the sequence flags
abbrev pub flag_bits : SequenceFlags → ℕ
flag_bits Continuation = 0
flag_bits First = 1
flag_bits Last = 2
flag_bits Unsegmented = 3

-- octets of a packet: the primary header and the data field (4.1.2)
abbrev pub packet_len : Parts → ℕ
packet_len p = 6 + length p.body

-- The fields of the primary header before octets (4.1.3), by their first bit and their width.
-- 4.1.3.2, the packet version number
abbrev pub version_field : List ℕ → ℕ
version_field text = field text 0 3

-- 4.1.3.3, the packet identification: type, secondary header flag, application process identifier
abbrev pub type_field : List ℕ → ℕ
type_field text = field text 3 1

abbrev pub secondary_field : List ℕ → ℕ
secondary_field text = field text 4 1

abbrev pub apid_field : List ℕ → ℕ
apid_field text = field text 5 11

-- 4.1.3.4, the packet sequence control: sequence flags, sequence count
abbrev pub flags_field : List ℕ → ℕ
flags_field text = field text 16 2

abbrev pub count_field : List ℕ → ℕ
count_field text = field text 18 14

-- 4.1.3.5, the packet data length: the octets of the data field less one
abbrev pub length_field : List ℕ → ℕ
length_field text = field text 32 16

-- The octets are this packet, and no more. Its data field has one more octet than the data length
-- field says, so that none is empty.
pub record SpellsPacket (p : Parts) (text : List ℕ) : Type 0 where
  pub version : version_field text ≡ 0
  pub packet_type : type_field text ≡ type_bit p.packet_type
  pub secondary_header : secondary_field text ≡ flag p.has_secondary_header
  pub apid : apid_field text ≡ p.apid
  pub sequence_flags : flags_field text ≡ flag_bits p.sequence_flags
  pub count : count_field text ≡ p.count
  pub data_length : length_field text + 1 ≡ length p.body
  -- 4.1.4, the packet data field
  pub size : length text ≡ packet_len p
  pub body : drop 6 text ≡ p.body

-- what can be written: each part fits its field
pub record IsWritable (p : Parts) : Type 0 where
  pub apid : p.apid < 2048
  pub count : p.count < 16384
  pub some : 1 ≤ length p.body
  pub fits : length p.body ≤ 65536

-- the primary header of a packet with so many octets of data
abbrev pub header_octets : Parts → ℕ → List ℕ
header_octets p data_octets =
    octets 2 (4096 * type_bit p.packet_type + 2048 * flag p.has_secondary_header + p.apid)
    ++ octets 2 (16384 * flag_bits p.sequence_flags + p.count) ++ octets 2 (data_octets - 1)

-- the written spelling of a packet
abbrev pub packet_octets : Parts → List ℕ
packet_octets p = header_octets p (length p.body) ++ p.body

-- the octets that a packet can have: its header, and a data field of 1 to 65,536
abbrev pub IsPacketLen : ℕ → Type 0
IsPacketLen len = (7 ≤ len) × (len ≤ 65542)

-- the idle packet of so many octets, unsegmented (4.1.3.3.4)
abbrev pub idle : ℕ → Parts
idle len = record {
  apid = 2047;
  packet_type = Telemetry;
  has_secondary_header = false;
  sequence_flags = Unsegmented;
  count = 0;
  body = replicate (len - 6) 0;
}

-- why octets begin with no packet, or none if they do
abbrev pub fault : List ℕ → Option PacketError
fault text =
    if nat_lt (length text) 6 then Some Short
    else if not (version_field text == 0) then Some Version
    else if nat_lt (length text) (7 + length_field text) then Some Short
    else None

-- the number of a refusal, and its name
abbrev pub refusal_number : PacketError → ℕ
refusal_number Short = 1
refusal_number Version = 2

abbrev pub refusal_name : PacketError → List ℕ
refusal_name Short = codes "Short"
refusal_name Version = codes "Version"
