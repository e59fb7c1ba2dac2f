-- The sums of a file's checksum, made again by reading what is staged.
use Rattle.std.specs.Prelude.{◌≡◌, ◌-◌, ◌<◌, ◌≤◌, ℕ, List, [], ◌∷◌, map}
use Rattle.cfdp_directives.specs.Pdu.Checksum.{Piece}
use Rattle.cfdp_extents.specs.Offsets.{Offsets, union_of}
use Rattle.cfdp_store.specs.Staged.{OctetMap, front_from}

-- Ranges, one after another, from an offset on; each must have at least one offset.
abbrev pub AreInOrder : ℕ → List (ℕ × ℕ) → Type 0
AreInOrder from [] = Unit {0}
AreInOrder from (r ∷ rs) = (from ≤ r.0) × (r.0 < r.1) × AreInOrder r.1 rs

-- Such ranges are exactly what is held.
pub record AreReadOf (held : Offsets) (ranges : List (ℕ × ℕ)) : Type 0 where
  pub in_order : AreInOrder 0 ranges
  pub union : union_of ranges ≡ held

-- what is read in a range
abbrev pub read_in : OctetMap → ℕ × ℕ → Piece
read_in m r = record { offset = r.0; bytes = front_from m r.0 (r.1 - r.0) }

abbrev pub all_read : OctetMap → List (ℕ × ℕ) → List Piece
all_read m ranges = map (read_in m) ranges
