-- How any zone is read, also a zone of no stream.
use Rattle.std.specs.Prelude.{ℕ, zero, suc, ◌+◌, ◌-◌, Bool, true, false, not, ◌&&◌, ◌||◌, ◌==◌, nat_lt, if◌then◌else◌, List, [], ◌∷◌, ◌++◌, length, take, drop}
use Rattle.cfd_bits.specs.Field.{flag}
use Rattle.mpdu.specs.Stream.{header_len, header_ok, is_idle, keep}

-- what was read: the begun packet, the whole ones that aren't idle, and whether a bad header ended
-- it
pub record Read : Type 0 where
  pub begun : List ℕ
  pub out : List (List ℕ)
  pub bad : Bool

abbrev pub emit : List ℕ → Read → Read
emit p r = record { begun = r.begun; out = keep (not (is_idle p)) p r.out; bad = r.bad }

-- Packets end to end from the front on, at most n of them. If a header has a wrong version, nothing
-- after it is read.
abbrev pub scan : ℕ → List ℕ → Read
scan zero xs = record { begun = []; out = []; bad = false }
scan (suc n) xs =
    if nat_lt (length xs) 6 then record { begun = xs; out = []; bad = false }
    else (if header_ok xs then
    (if nat_lt (length xs) (header_len xs) then record { begun = xs; out = []; bad = false }
    else emit (take (header_len xs) xs) (scan n (drop (header_len xs) xs)))
    else record { begun = []; out = []; bad = true })

-- the pointer of a zone whose first m octets end a packet
abbrev pub pointer_after : ℕ → ℕ → ℕ
pointer_after z m = if nat_lt m z then m else 2047

-- the begun packet goes on in this zone
abbrev pub goes_on : ℕ → List ℕ → ℕ → List ℕ → Bool
goes_on z [] at octets = false
goes_on z (b ∷ bs) at octets =
    header_ok (b ∷ bs ++ octets) && (at == pointer_after z
    (header_len (b ∷ bs ++ octets) - length (b ∷ bs)))

-- the begun packet's header is whole with this zone, and of a wrong version
abbrev pub turns_bad : List ℕ → List ℕ → Bool
turns_bad [] octets = false
turns_bad (b ∷ bs) octets = not (header_ok (b ∷ bs ++ octets))

-- what is read of a zone: all of it after what is held if that goes on, otherwise what stands at
-- the pointer
abbrev pub to_read : ℕ → List ℕ → ℕ → List ℕ → List ℕ
to_read z held at octets = if goes_on z held at octets then held ++ octets else drop at octets

-- one zone read
abbrev pub step : ℕ → List ℕ → ℕ → List ℕ → Read
step z held at octets = scan (length (to_read z held at octets)) (to_read z held at octets)

-- what is held of a begun packet at a zone: nothing if the zone doesn't follow the last one read
abbrev pub held_at : Bool → List ℕ → List ℕ
held_at follows held = if follows then held else []

-- the pointer is an offset in the zone, or says that no packet starts there
abbrev pub is_usable : ℕ → ℕ → Bool
is_usable z at = nat_lt at z || (at == 2047)

abbrev pub is_some : List ℕ → Bool
is_some [] = false
is_some (x ∷ xs) = true

-- true if a begun packet is discarded for another cause than its header, or the pointer is not
-- usable. The pointer 2046, of a zone of idle data, is neither.
abbrev pub resync : ℕ → List ℕ → Bool → ℕ → List ℕ → Bool
resync z held follows at octets =
    not (at == 2046)
    && (not (is_usable z at) || (is_some held
    && not (goes_on z (held_at follows held) at octets || turns_bad
    (held_at follows held) octets)))

-- what is read of a zone that follows the last one read, or doesn't
abbrev pub reading : List ℕ → Bool → ℕ → List ℕ → Read
reading held follows at octets = step (length octets) (held_at follows held) at octets

-- how many packets of a zone are bad: the begun one, and the one that ends the reading
abbrev pub bad_count : ℕ → List ℕ → ℕ → List ℕ → ℕ
bad_count z held at octets = flag (is_usable z at && turns_bad held octets)
    + flag (step z held at octets).bad
