-- Streams of packets over zones, and what comes of them if zones are lost (CCSDS 732.0-B-4,
-- 4.1.4.2).
use Rattle.std.specs.Prelude.{ℕ, ◌+◌, ◌-◌, ◌*◌, Bool, true, false, not, ◌&&◌, ◌==◌, nat_lt, nat_le, if◌then◌else◌, List, [], ◌∷◌, ◌++◌, length, take, drop}
use Rattle.space_packet.specs.Packet.{Parts, SpellsPacket, version_field, apid_field, length_field}

-- one whole packet, idle or not
pub record IsPacket (text : List ℕ) : Type 0 where
  pub parts : Parts
  pub spelled : SpellsPacket parts text

abbrev pub ArePackets : List (List ℕ) → Type 0
ArePackets [] = Unit {0}
ArePackets (p ∷ ps) = IsPacket p × ArePackets ps

-- What the header at the front says of its packet (CCSDS 133.0-B-2, 4.1.3): how many octets it has,
-- the header's six among them,
unfoldable pub header_len : List ℕ → ℕ
header_len text = 7 + length_field text

-- true if its version is 000,
unfoldable pub header_ok : List ℕ → Bool
header_ok text = version_field text == 0

-- true if it is idle.
unfoldable pub is_idle : List ℕ → Bool
is_idle text = apid_field text == 2047

-- the octets of the packets, end to end
abbrev pub stream : List (List ℕ) → List ℕ
stream [] = []
stream (p ∷ ps) = p ++ stream ps

-- the zone of z octets that begins at octet start
abbrev pub zone : ℕ → ℕ → List ℕ → List ℕ
zone z start text = take z (drop start text)

-- the octets from s up to e and those from a up to b have one in common
abbrev pub meets : ℕ → ℕ → ℕ → ℕ → Bool
meets s e a b = nat_lt a e && nat_lt s b

-- Every zone that meets the octets from a up to b was delivered. The marks are of the zones from
-- octet s on, in order; a zone after the marks was not delivered.
abbrev pub arrived : ℕ → ℕ → List Bool → ℕ → ℕ → Bool
arrived z s [] a b = nat_le b s
arrived z s (mark ∷ marks) a b = if meets s (s + z) a b then mark && arrived z (s + z) marks a b
    else arrived z (s + z) marks a b

-- a packet, if it is kept, and others after it
abbrev pub keep : Bool → List ℕ → List (List ℕ) → List (List ℕ)
keep true p ps = p ∷ ps
keep false p ps = ps

-- of the packets from octet a on, those that aren't idle and whose zones were all delivered
abbrev pub survivors : ℕ → List Bool → ℕ → List (List ℕ) → List (List ℕ)
survivors z marks a [] = []
survivors z marks a (p ∷ ps) = keep (arrived z 0 marks a (a + length p) && not (is_idle p)) p
    (survivors z marks (a + length p) ps)

-- The first header pointer of the zone from octet start on: the offset in it of the first packet
-- that starts there, or 2047 if there is none (4.1.4.2.3).
abbrev pub first_header_pointer : ℕ → ℕ → ℕ → List (List ℕ) → ℕ
first_header_pointer z start a [] = 2047
first_header_pointer z start a (p ∷ ps) =
    if nat_le start a then (if nat_lt a (start + z) then a - start else 2047)
    else first_header_pointer z start (a + length p) ps

-- what came of the packet that the marks' end cuts, if all zones that it meets till there were
-- delivered
abbrev pub begun : ℕ → List Bool → ℕ → List (List ℕ) → List ℕ
begun z marks a [] = []
begun z marks a (p ∷ ps) =
    if nat_le (a + length p) (length marks * z) then begun z marks (a + length p) ps
    else (if arrived z 0 marks a (length marks * z) then take (length marks * z - a) p else [])
