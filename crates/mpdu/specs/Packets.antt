-- The packets that octets spell, read from their first octet on.
use Rattle.std.specs.Prelude.{ℕ, zero, suc, Bool, ◌&&◌, not, nat_le, if◌then◌else◌, List, [], ◌∷◌, length, take, drop}
use Rattle.mpdu.specs.Stream.{header_len, header_ok, is_idle, keep}

-- A whole packet stands at the front: a header of version 000, and as many octets as it says (CCSDS
-- 133.0-B-2, 4.1.3).
abbrev pub begins_with_packet : List ℕ → Bool
begins_with_packet text = nat_le 6 (length text) && header_ok text
    && nat_le (header_len text) (length text)

-- the packets that stand end to end from the first octet on, n of them at most
unfoldable pub first_packets : ℕ → List ℕ → List (List ℕ)
first_packets zero text = []
first_packets (suc n) text =
    if begins_with_packet text then take (header_len text) text ∷ first_packets n
    (drop (header_len text) text) else []

-- all of them: no packet is empty, so there are no more than octets
unfoldable pub packets_of : List ℕ → List (List ℕ)
packets_of text = first_packets (length text) text

-- those that are not idle
abbrev pub busy : List (List ℕ) → List (List ℕ)
busy [] = []
busy (p ∷ ps) = keep (not (is_idle p)) p (busy ps)
