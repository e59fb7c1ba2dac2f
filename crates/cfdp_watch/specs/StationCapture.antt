-- What is in a capture of one station: both directions, at the time of the clock. It is a pcapng
-- file, as in `Capture`, with the link type of Wireshark's upper PDUs: tags before each PDU say
-- which dissector reads it.
use Rattle.std.specs.Prelude.{ℕ, ◌+◌, ◌*◌, ◌/◌, ◌%◌, ◌==◌, if◌then◌else◌, List, [], ◌∷◌, ◌++◌, codes, length}
use Rattle.std.specs.Int.{to_be_bytes, w16, w32, w64}
use Rattle.std.specs.List.{flat_map}
use Rattle.cfdp_watch.specs.Capture.{padding, padding_len, section_octets}
use Rattle.cfdp_watch.specs.declared.sighting.Deed.{Deed}
use Rattle.cfdp_watch.specs.declared.sighting.Deed.TheVariants.{HearsPdu, SendsPdu}
use Rattle.cfdp_watch.specs.declared.sighting.Sighting.{Sighting}
use Rattle.cfdp_watch.specs.declared.station_capture.Way.{Way}
use Rattle.cfdp_watch.specs.declared.station_capture.Way.TheVariants.{Inbound, Outbound}

-- a block of an interface, whose name is of three or four octets: link type 252, records of any
-- length, the name (option 2), and the end of options
abbrev pub upper_interface_octets : List ℕ → List ℕ
upper_interface_octets name = to_be_bytes w32 1 ++ to_be_bytes w32 32 ++ to_be_bytes w16 252
    ++ to_be_bytes w16 0 ++ to_be_bytes w32 0 ++ to_be_bytes w16 2
    ++ to_be_bytes w16 (length name) ++ name ++ padding (length name) ++ to_be_bytes w32 0
    ++ to_be_bytes w32 32

-- Directives are an interface, and file data.
abbrev pub station_header_octets : List ℕ
station_header_octets = section_octets ++ upper_interface_octets (codes "dir")
    ++ upper_interface_octets (codes "data")

-- the interface of a PDU, by its type: bit 3 of its first octet (CCSDS 727.0-B-5, 5.1)
abbrev pub type_interface : List ℕ → ℕ
type_interface [] = 0
type_interface (first ∷ rest) = first / 16 % 2

-- the tags of an upper PDU: the name of the dissector (tag 12), and the end of tags
abbrev pub upper_tags : List ℕ
upper_tags = to_be_bytes w16 12 ++ to_be_bytes w16 4 ++ codes "cfdp" ++ to_be_bytes w32 0

-- the flags of a packet (option 2): whether the station received the PDU or sent it
abbrev pub flags_of : Way → ℕ
flags_of Inbound = 1
flags_of Outbound = 2

-- the flags as an option, and the end of options
abbrev pub flag_octets : Way → List ℕ
flag_octets way = to_be_bytes w16 2 ++ to_be_bytes w16 4 ++ to_be_bytes w32 (flags_of way)
    ++ to_be_bytes w32 0

-- the length of the block of a PDU of so many octets
abbrev pub upper_block_len : ℕ → ℕ
upper_block_len len = 56 + len + padding_len len

-- a block of a packet: its interface, its time in microseconds since 1970, its length as captured
-- and as sent, the tags and the PDU, and its direction
abbrev pub upper_packet_octets : Way → (microseconds : ℕ) → List ℕ → List ℕ
upper_packet_octets way microseconds pdu = to_be_bytes w32 6
    ++ to_be_bytes w32 (upper_block_len (length pdu)) ++ to_be_bytes w32 (type_interface pdu)
    ++ to_be_bytes w64 microseconds ++ to_be_bytes w32 (12 + length pdu)
    ++ to_be_bytes w32 (12 + length pdu) ++ (upper_tags ++ (pdu ++ (padding (length pdu)
    ++ (flag_octets way ++ to_be_bytes w32 (upper_block_len (length pdu))))))

-- Each PDU that the station sent or received is there once, at the time at which it was seen.
abbrev pub station_record_of : Deed → (microseconds : ℕ) → List ℕ → List ℕ
station_record_of (SendsPdu lane) microseconds pdu = upper_packet_octets Outbound microseconds pdu
station_record_of HearsPdu microseconds pdu = upper_packet_octets Inbound microseconds pdu
station_record_of _ microseconds octets = []

abbrev pub station_record_octets : (microseconds : ℕ) → Sighting → List ℕ
station_record_octets microseconds s = station_record_of s.deed microseconds s.octets.items

abbrev pub station_records : (microseconds : ℕ) → List Sighting → List ℕ
station_records microseconds sightings = flat_map (station_record_octets microseconds) sightings
