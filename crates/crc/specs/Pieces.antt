-- The check of a file whose pieces come in any order. Kept is the remainder of the octets up to the
-- end of the octets that came, with zeros where none came yet.
use Rattle.std.specs.Prelude.{◌≡◌, ℕ, ◌+◌, ◌-◌, ◌<◌, ◌≤◌, Bool, List, length, take, drop, min, max, fold, bit_xor, count_by, nat_le, nat_lt, ◌&&◌}
use Rattle.std.specs.List.{AllByRecursion}
use Rattle.crc.specs.declared.thirty_two.Crc32.{Crc32}
use Rattle.crc.specs.declared.file_check.FileCheck.{FileCheck}
use Rattle.crc.specs.FileChecks.{left_behind, moved_octets, start32}

-- octets, and where in a file they begin
pub record Piece : Type 0 where
  pub offset : ℕ
  pub bytes : List ℕ

-- nothing came
abbrev pub nothing_kept : Crc32 → FileCheck
nothing_kept kind = record { kind = kind; end = 0; left = start32 kind }

-- how many octets of a piece lie before the end
abbrev pub before_end : ℕ → Piece → ℕ
before_end end p = min (length p.bytes) (end - p.offset)

-- Once a piece came, each octet of it for the first time: the octets before the end are added,
-- moved by the octets after them; the others go on, after zeros if there is a gap.
abbrev pub kept_with : FileCheck → Piece → FileCheck
kept_with k p =
    let n = before_end k.end p in
    let front = left_behind k.kind 0 (take n p.bytes) in
    let behind = k.end - (p.offset + n) in
    let gap = p.offset + n - k.end in
    let laid = bit_xor k.left (moved_octets k.kind behind front) in
    record {
      kind = k.kind;
      end = max k.end (p.offset + length p.bytes);
      left = left_behind k.kind (moved_octets k.kind gap laid) (drop n p.bytes);
    }

-- once pieces came, in this order
abbrev pub kept_of : Crc32 → List Piece → FileCheck
kept_of kind pieces = fold kept_with (nothing_kept kind) pieces

-- true if the offset is one of the piece's
abbrev pub covers : ℕ → Piece → Bool
covers n p = nat_le p.offset n && nat_lt n (p.offset + length p.bytes)

-- The piece is a part of the file.
pub record IsOf (file : List ℕ) (p : Piece) : Type 0 where
  pub within : p.offset + length p.bytes ≤ length file
  pub same : p.bytes ≡ take (length p.bytes) (drop p.offset file)

-- The pieces are the file, each octet of it once.
pub record Cuts (file : List ℕ) (pieces : List Piece) : Type 0 where
  pub parts : AllByRecursion (IsOf file) pieces
  pub once : (n : ℕ) → n < length file → count_by (covers n) pieces ≡ 1
