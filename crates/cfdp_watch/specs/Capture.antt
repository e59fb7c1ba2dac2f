-- What is in a capture: the pcapng format (draft-ietf-opsawg-pcapng), as Wireshark reads it, all
-- numbers with the highest octet first. It is a row of blocks (3.1 there). Each has its kind first,
-- its length in octets after that and again at its end, and is padded to a multiple of four octets.
use Rattle.std.specs.Prelude.{ℕ, ◌+◌, ◌-◌, ◌*◌, ◌^◌, ◌%◌, List, [], ◌++◌, codes, length, replicate, take, Option}
use Rattle.std.specs.Int.{to_be_bytes, w16, w32, w64}
use Rattle.std.specs.Io.KnownBytes.{Appends}
use Rattle.std.specs.List.{flat_map}
use Rattle.aos_frame.specs.declared.config.Lane.{Lane}
use Rattle.aos_frame.specs.declared.config.Lane.TheVariants.{Directives, Data}
use Rattle.cfdp_watch.specs.declared.sighting.Deed.{Deed}
use Rattle.cfdp_watch.specs.declared.sighting.Deed.TheVariants.{SendsPdu}
use Rattle.cfdp_watch.specs.declared.sighting.Sighting.{Sighting}

-- how many octets of padding follow so many octets, up to a multiple of four
abbrev pub padding_len : ℕ → ℕ
padding_len len = (4 - len % 4) % 4

-- these octets, which are zero
abbrev pub padding : ℕ → List ℕ
padding len = take (padding_len len) (replicate 3 0)

-- the block that begins a capture (4.1): the order of octets, version 1.0, and a length that isn't
-- given
abbrev pub section_octets : List ℕ
section_octets = to_be_bytes w32 0x0A0D0D0A ++ to_be_bytes w32 28 ++ to_be_bytes w32 0x1A2B3C4D
    ++ to_be_bytes w16 1 ++ to_be_bytes w16 0 ++ to_be_bytes w64 (2 ^ 64 - 1) ++ to_be_bytes w32 28

-- a block of an interface (4.2), whose name is of three or four octets: link type 147, records of
-- at most 65,535 octets, the name (option 2), and the end of options
abbrev pub interface_octets : List ℕ → List ℕ
interface_octets name = to_be_bytes w32 1 ++ to_be_bytes w32 32 ++ to_be_bytes w16 147
    ++ to_be_bytes w16 0 ++ to_be_bytes w32 65535 ++ to_be_bytes w16 2
    ++ to_be_bytes w16 (length name) ++ name ++ padding (length name) ++ to_be_bytes w32 0
    ++ to_be_bytes w32 32

-- Each lane is an interface.
abbrev pub header_octets : List ℕ
header_octets = section_octets ++ interface_octets (codes "dir") ++ interface_octets (codes "data")

-- the number of a lane's interface: its place among them
abbrev pub interface_of : Lane → ℕ
interface_of Directives = 0
interface_of Data = 1

-- the length of the block of a PDU of so many octets
abbrev pub block_len : ℕ → ℕ
block_len len = 32 + len + padding_len len

-- a block of a packet (4.3): its interface, its time in microseconds, its length as captured and as
-- sent, and the PDU
abbrev pub packet_octets : Lane → (microseconds : ℕ) → List ℕ → List ℕ
packet_octets lane microseconds pdu = to_be_bytes w32 6 ++ to_be_bytes w32 (block_len (length pdu))
    ++ to_be_bytes w32 (interface_of lane) ++ to_be_bytes w64 microseconds
    ++ to_be_bytes w32 (length pdu) ++ to_be_bytes w32 (length pdu)
    ++ (pdu ++ (padding (length pdu) ++ to_be_bytes w32 (block_len (length pdu))))

-- Each PDU that is sent is there once, at the interface of the lane in which its last frame left.
-- It was sent in the second that is its event's number, and in the microsecond that is its place
-- in it.
abbrev pub record_of : Deed → (event place : ℕ) → List ℕ → List ℕ
record_of (SendsPdu lane) event place pdu = packet_octets lane (event * 1000000 + place) pdu
record_of _ event place octets = []

abbrev pub record_octets : Sighting → List ℕ
record_octets s = record_of s.deed s.event s.place s.octets.items

abbrev pub capture_octets : List Sighting → List ℕ
capture_octets sightings = header_octets ++ flat_map record_octets sightings

-- What was written from some start on is the capture of those seen so far.
abbrev pub CapturesSoFar : List Sighting → (start now : Option (List ℕ)) → Type 0
CapturesSoFar seen start now = Appends start now (capture_octets seen)
