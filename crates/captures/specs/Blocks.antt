-- The blocks of a pcapng file (draft-ietf-opsawg-pcapng): how each is laid out (3.1), and what is
-- in those that are read (4).
use Rattle.std.specs.Prelude.{◌≡◌, ℕ, ◌+◌, ◌-◌, ◌%◌, ◌≤◌, ◌==◌, ◌||◌, nat_le, nat_lt, not, if◌then◌else◌, List, length, take, drop, slice_index_or, Option, Some, None}
use Rattle.captures.specs.declared.block.Block.{Block}
use Rattle.captures.specs.declared.fault.CaptureFault.{CaptureFault}
use Rattle.captures.specs.declared.fault.CaptureFault.TheVariants.{CutOff, BadInterface, BadLength, BadOrder, BadVersion}
use Rattle.captures.specs.declared.order.ByteOrder.{ByteOrder}
use Rattle.captures.specs.declared.order.ByteOrder.TheVariants.{BigEndian, LittleEndian}
use Rattle.captures.specs.declared.packet.Interface.{Interface}
use Rattle.captures.specs.Numbers.{number, short}
use Rattle.captures.specs.Packets.{PacketText}

-- a block: the order of the octets of its numbers, its kind, and its body
pub record BlockText : Type 0 where
  pub order : ByteOrder
  pub kind : ℕ
  pub body : List ℕ

abbrev pub block_text : Block → BlockText
block_text b = record { order = b.order; kind = b.kind; body = b.body.now }

-- The order of a block is the order of its section. A section header (4.1), whose kind is the same
-- in either order, must give its own by its byte-order magic.
abbrev pub block_order : ByteOrder → List ℕ → Option ByteOrder
block_order order text =
    if not (number BigEndian text 0 == 0x0A0D0D0A) then Some order
    else if number BigEndian text 8 == 0x1A2B3C4D then Some BigEndian
    else if number LittleEndian text 8 == 0x1A2B3C4D then Some LittleEndian
    else None

-- The text begins with this block, in a section of this order, and the rest stands after it. The
-- block is its kind, its length in octets, its body, and its length again. The length must be a
-- multiple of four.
pub record SpellsBlock (order : ByteOrder) (block : BlockText) (text rest : List ℕ) : Type 0 where
  pub whole : 12 ≤ length text
  pub ordered : block_order order text ≡ Some block.order
  pub kind : block.kind ≡ number block.order text 0
  pub least : 12 ≤ number block.order text 4
  pub padded : number block.order text 4 % 4 ≡ 0
  pub inside : number block.order text 4 ≤ length text
  pub again : number block.order text (number block.order text 4 - 4) ≡ number block.order text 4
  pub body : block.body ≡ take (number block.order text 4 - 12) (drop 8 text)
  pub behind : rest ≡ drop (number block.order text 4) text

-- what is wrong with a text if it begins with none
abbrev pub length_fault : ByteOrder → List ℕ → Option CaptureFault
length_fault order text =
    if nat_lt (number order text 4) 12 || not (number order text 4 % 4 == 0) then Some BadLength
    else if nat_lt (length text) (number order text 4) then Some CutOff
    else if not (number order text (number order text 4 - 4) == number order text 4)
    then Some BadLength
    else None

abbrev pub ordered_fault : Option ByteOrder → List ℕ → Option CaptureFault
ordered_fault None text = Some BadOrder
ordered_fault (Some order) text = length_fault order text

abbrev pub block_fault : ByteOrder → List ℕ → Option CaptureFault
block_fault order text =
    if nat_lt (length text) 12 then Some CutOff else ordered_fault (block_order order text) text

-- ---- a section header (4.1): the byte-order magic, the version, and the length of the section
abbrev pub section_fault : ByteOrder → List ℕ → Option CaptureFault
section_fault order body =
    if nat_lt (length body) 16 then Some BadLength
    else if short order body 4 == 1 then None
    else Some BadVersion

-- ---- the description of an interface (4.2): the link type, two octets, and the snap length
abbrev pub interface_in : ByteOrder → List ℕ → Interface
interface_in order body = record {
  link_type = short order body 0;
  snap_len = number order body 4;
}

abbrev pub interface_fault : List ℕ → Option CaptureFault
interface_fault body = if nat_lt (length body) 8 then Some BadLength else None

abbrev pub no_interface : Interface
no_interface = record { link_type = 0; snap_len = 0 }

-- the interface of this number, if there is one
abbrev pub interface_at : List Interface → ℕ → Interface
interface_at interfaces place = slice_index_or interfaces place no_interface

-- ---- an enhanced packet block (4.3): the interface, a timestamp of 8 octets, the captured packet
-- length, the original packet length, and the packet
abbrev pub enhanced_packet : ByteOrder → List Interface → List ℕ → PacketText
enhanced_packet order interfaces body = record {
  link_type = (interface_at interfaces (number order body 0)).link_type;
  original = number order body 16;
  octets = take (number order body 12) (drop 20 body);
}

abbrev pub enhanced_fault : ByteOrder → List Interface → List ℕ → Option CaptureFault
enhanced_fault order interfaces body =
    if nat_lt (length body) 20 then Some BadLength
    else if nat_le (length interfaces) (number order body 0) then Some BadInterface
    else if nat_lt (length body) (20 + number order body 12) then Some BadLength
    else None

-- ---- a simple packet block (4.4): the original packet length, and the packet, of which no more
-- was captured than the snap length of the first interface says, if that isn't 0
abbrev pub captured_of : (original snap_len : ℕ) → ℕ
captured_of original snap_len =
    if (snap_len == 0) || nat_le original snap_len then original else snap_len

abbrev pub simple_captured : ByteOrder → List Interface → List ℕ → ℕ
simple_captured order interfaces body =
    captured_of (number order body 0) (interface_at interfaces 0).snap_len

abbrev pub simple_packet : ByteOrder → List Interface → List ℕ → PacketText
simple_packet order interfaces body = record {
  link_type = (interface_at interfaces 0).link_type;
  original = number order body 0;
  octets = take (simple_captured order interfaces body) (drop 4 body);
}

abbrev pub simple_fault : ByteOrder → List Interface → List ℕ → Option CaptureFault
simple_fault order interfaces body =
    if nat_lt (length body) 4 then Some BadLength
    else if length interfaces == 0 then Some BadInterface
    else if nat_lt (length body) (4 + simple_captured order interfaces body) then Some BadLength
    else None
