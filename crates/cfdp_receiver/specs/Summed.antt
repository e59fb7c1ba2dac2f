-- The sums of a file's checksum, and what is staged of the file.
use Rattle.std.specs.Prelude.{◌≡◌, ◌+◌, ◌<◌, ◌≤◌, ◌&&◌, ℕ, true, List, Option, IsSome, length, nat_lt, slice_get, count_by, unwrap_or, if◌then◌else◌}
use Rattle.std.specs.List.{AllByRecursion}
use Rattle.std.specs.FinMap as map
use Rattle.std.specs.FinSet as set
use Rattle.cfdp_directives.specs.declared.pdu.sums.Checksums.{Checksums}
use Rattle.cfdp_directives.specs.Pdu.Checksum.{Piece, covers}
use Rattle.cfdp_directives.specs.Pdu.Sums.{AreSumsOf}
use Rattle.cfdp_extents.specs.Offsets.{Offsets}
use Rattle.cfdp_store.specs.Staged.{OctetMap}

-- A piece must have at least one octet, and each of its octets the one that is staged at its
-- offset.
pub record IsStagedIn (m : OctetMap) (p : Piece) : Type 0 where
  pub some : 0 < length p.bytes
  pub same : (k : ℕ) → k < length p.bytes → map.get m (p.offset + k) ≡ slice_get p.bytes k

-- The pieces are what is staged at these offsets, each octet once.
pub record CutsStaged (held : Offsets) (m : OctetMap) (pieces : List Piece) : Type 0 where
  pub parts : AllByRecursion (IsStagedIn m) pieces
  pub once : (n : ℕ) → count_by (covers n) pieces ≡ (if set.contains held n then 1 else 0)

-- The sums are those of the octets that are staged at these offsets: for the known checksum type,
-- or for all types.
pub record SumsStaged (wanted : Option ℕ) (held : Offsets) (m : OctetMap) (sums : Checksums)
    : Type 0 where
  pub pieces : List Piece
  pub cut : CutsStaged held m pieces
  pub are : AreSumsOf wanted pieces sums

-- A transaction is begun in the inbox, each octet that is held is staged for it, and the sums are
-- those of these octets.
pub record IsAdopted (wanted : Option ℕ) (held : Offsets) (staged : Option OctetMap)
    (sums : Checksums) : Type 0 where
  pub begun : IsSome staged
  pub backed : (n : ℕ) → set.contains held n ≡ true
      → IsSome (map.get (unwrap_or staged map.empty) n)
  pub summed : SumsStaged wanted held (unwrap_or staged map.empty) sums

-- Proof-only: the same of what is held below an offset.
pub record SumsBelow (wanted : Option ℕ) (held : Offsets) (end : ℕ) (m : OctetMap)
    (sums : Checksums) : Type 0 where
  pub backed : (n : ℕ) → set.contains held n ≡ true → n < end → IsSome (map.get m n)
  pub pieces : List Piece
  pub parts : AllByRecursion (IsStagedIn m) pieces
  pub low : AllByRecursion (λ (p : Piece). p.offset + length p.bytes ≤ end) pieces
  pub once : (n : ℕ) → count_by (covers n) pieces
      ≡ (if set.contains held n && nat_lt n end then 1 else 0)
  pub are : AreSumsOf wanted pieces sums
