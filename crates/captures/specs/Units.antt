-- What a captured packet carries: the payload of a UDP datagram over IP, or what is captured as it
-- is. Bit 0 is the most significant bit of the first octet.
use Rattle.std.specs.Prelude.{ℕ, ◌+◌, ◌-◌, ◌*◌, ◌==◌, ◌&&◌, ◌||◌, nat_le, nat_lt, not, Bool, true, if◌then◌else◌, List, [], ◌∷◌, ◌++◌, codes, length, take, drop, Option, Some, None, unwrap_or}
use Rattle.std.specs.Str.{bytes_eq}
use Rattle.cfd_bits.specs.Field.{field}
use Rattle.captures.specs.declared.unit.SkipCause.{SkipCause}
use Rattle.captures.specs.declared.unit.SkipCause.TheVariants.{CutShort, OtherLink, NotIp, Fragment, NotUdp, Malformed}
use Rattle.captures.specs.Packets.{PacketText}

-- the first fault of two, one after the other
abbrev pub or_else : Option SkipCause → Option SkipCause → Option SkipCause
or_else (Some fault) behind = Some fault
or_else None behind = behind

-- ---- the link header. Link types 147 to 162 are for any use, and have none.
abbrev pub is_free : ℕ → Bool
is_free link_type = nat_le 147 link_type && nat_le link_type 162

-- its octets: of loopback, of Ethernet, of bare IP, and of Linux's cooked captures
abbrev pub link_header : ℕ → Option ℕ
link_header link_type =
    if link_type == 0 then Some 4
    else if link_type == 1 then Some 14
    else if link_type == 12 then Some 0
    else if link_type == 14 then Some 0
    else if link_type == 101 then Some 0
    else if link_type == 108 then Some 4
    else if link_type == 113 then Some 16
    else if link_type == 276 then Some 20
    else None

-- the EtherTypes of IPv4 and IPv6
abbrev pub is_ip_type : ℕ → Bool
is_ip_type ether_type = (ether_type == 0x0800) || (ether_type == 0x86DD)

-- true if IP is after the header, if it says so: by its last two octets, or, of 276, its first
abbrev pub says_ip : ℕ → List ℕ → Bool
says_ip link_type octets =
    if link_type == 1 then is_ip_type (field octets 96 16)
    else if link_type == 113 then is_ip_type (field octets 112 16)
    else if link_type == 276 then is_ip_type (field octets 0 16)
    else true

abbrev pub network_in : ℕ → List ℕ → List ℕ
network_in link_type octets = drop (unwrap_or (link_header link_type) 0) octets

abbrev pub header_fault : (link_type header : ℕ) → List ℕ → Option SkipCause
header_fault link_type header octets =
    if nat_lt (length octets) header then Some Malformed
    else if says_ip link_type octets then None
    else Some NotIp

abbrev pub known_link_fault : Option ℕ → ℕ → List ℕ → Option SkipCause
known_link_fault None link_type octets = Some (OtherLink link_type)
known_link_fault (Some header) link_type octets = header_fault link_type header octets

abbrev pub link_fault : ℕ → List ℕ → Option SkipCause
link_fault link_type octets = known_link_fault (link_header link_type) link_type octets

-- ---- IPv4 (RFC 791, 3.1): the header's length is given in words of four octets, and the total
-- length in octets; after them stand the flag that more fragments follow and the fragment offset,
-- and the protocol, of which 17 is UDP
abbrev pub four_header : List ℕ → ℕ
four_header text = 4 * field text 4 4

abbrev pub four_total : List ℕ → ℕ
four_total text = field text 16 16

abbrev pub datagram_in_four : List ℕ → List ℕ
datagram_in_four text = take (four_total text - four_header text) (drop (four_header text) text)

abbrev pub four_fault : List ℕ → Option SkipCause
four_fault text =
    if nat_lt (length text) 20 then Some Malformed
    else if nat_lt (four_header text) 20 then Some Malformed
    else if nat_lt (four_total text) (four_header text) then Some Malformed
    else if nat_lt (length text) (four_total text) then Some Malformed
    else if not (field text 50 1 == 0) then Some Fragment
    else if not (field text 51 13 == 0) then Some Fragment
    else if not (field text 72 8 == 17) then Some (NotUdp (field text 72 8))
    else None

-- ---- IPv6 (RFC 8200, 3): 40 octets of the header, with the length of the payload and the next
-- header, of which 44 is a fragment's (4.5)
abbrev pub six_len : List ℕ → ℕ
six_len text = field text 32 16

abbrev pub datagram_in_six : List ℕ → List ℕ
datagram_in_six text = take (six_len text) (drop 40 text)

abbrev pub six_fault : List ℕ → Option SkipCause
six_fault text =
    if nat_lt (length text) 40 then Some Malformed
    else if nat_lt (length text) (40 + six_len text) then Some Malformed
    else if field text 48 8 == 44 then Some Fragment
    else if not (field text 48 8 == 17) then Some (NotUdp (field text 48 8))
    else None

-- ---- either, by the version at the front
abbrev pub datagram_in : List ℕ → List ℕ
datagram_in text = if field text 0 4 == 4 then datagram_in_four text else datagram_in_six text

abbrev pub network_fault : List ℕ → Option SkipCause
network_fault text =
    if length text == 0 then Some NotIp
    else if field text 0 4 == 4 then four_fault text
    else if field text 0 4 == 6 then six_fault text
    else Some NotIp

-- ---- UDP (RFC 768): two ports, the length of the datagram, a checksum, and the payload
abbrev pub udp_len : List ℕ → ℕ
udp_len text = field text 32 16

abbrev pub payload_in : List ℕ → List ℕ
payload_in text = take (udp_len text - 8) (drop 8 text)

abbrev pub datagram_fault : List ℕ → Option SkipCause
datagram_fault text =
    if nat_lt (length text) 8 then Some Malformed
    else if nat_lt (udp_len text) 8 then Some Malformed
    else if nat_lt (length text) (udp_len text) then Some Malformed
    else None

-- ---- Wireshark's upper PDUs (link type 252): tags stand before a PDU, each with the length of its
-- value, both in two octets. Before a PDU of CFDP stand the tag 12, whose value is the name of the
-- dissector, and the tag 0, which ends them.
abbrev pub upper_header : List ℕ
upper_header = 0 ∷ 12 ∷ 0 ∷ 4 ∷ codes "cfdp" ++ 0 ∷ 0 ∷ 0 ∷ 0 ∷ []

abbrev pub is_upper : ℕ → List ℕ → Bool
is_upper link_type octets = (link_type == 252) && bytes_eq (take 12 octets) upper_header

-- ---- all of it
unfoldable pub udp_payload : ℕ → List ℕ → List ℕ
udp_payload link_type octets = payload_in (datagram_in (network_in link_type octets))

unfoldable pub udp_fault : ℕ → List ℕ → Option SkipCause
udp_fault link_type octets = or_else (link_fault link_type octets)
    (or_else (network_fault (network_in link_type octets))
    (datagram_fault (datagram_in (network_in link_type octets))))

-- what is captured of a packet as its unit, and why there is none: some of it was cut off, or what
-- isn't captured as it is, and is no upper PDU of CFDP, has no UDP datagram
abbrev pub unit_in : PacketText → List ℕ
unit_in p =
    if is_free p.link_type then p.octets
    else if is_upper p.link_type p.octets then drop 12 p.octets
    else udp_payload p.link_type p.octets

abbrev pub unit_fault : PacketText → Option SkipCause
unit_fault p =
    if nat_lt (length p.octets) p.original then Some (CutShort (length p.octets) p.original)
    else if is_free p.link_type then None
    else if is_upper p.link_type p.octets then None
    else udp_fault p.link_type p.octets
