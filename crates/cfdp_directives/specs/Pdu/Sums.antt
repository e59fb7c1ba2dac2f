-- What is kept of pieces of a file that came, for its checksum of each type.
use Rattle.std.specs.Prelude.{◌≡◌, ℕ, ◌^◌, ◌<◌, ◌==◌, Bool, true, List, Option, Some, None, fold, if◌then◌else◌}
use Rattle.crc.specs.declared.thirty_two.Crc32.TheVariants.{Proximity1, Castagnoli, Ieee}
use Rattle.crc.specs.FileChecks.{written32}
use Rattle.crc.specs.Pieces.{kept_of, kept_with, nothing_kept}
use Rattle.cfdp_directives.specs.declared.pdu.sums.Checksums.{Checksums}
use Rattle.cfdp_directives.specs.Pdu.Codes.{modular, proximity, castagnoli, ieee}
use Rattle.cfdp_directives.specs.Pdu.Checksum.{Piece, added, sum_of}

-- nothing came
unfoldable pub nothing_summed : Checksums
nothing_summed = record {
  modular = 0;
  proximity = nothing_kept Proximity1;
  castagnoli = nothing_kept Castagnoli;
  ieee = nothing_kept Ieee;
}

-- true if pieces count for this type: if one is wanted, for that alone
abbrev pub wants : Option ℕ → ℕ → Bool
wants None kind = true
wants (Some wanted) kind = wanted == kind

-- once a piece came, if this type is wanted, or none is known yet
unfoldable pub summed : Option ℕ → Checksums → Piece → Checksums
summed wanted sums p = record {
  modular = if wants wanted modular then added sums.modular p else sums.modular;
  proximity = if wants wanted proximity then kept_with sums.proximity p else sums.proximity;
  castagnoli = if wants wanted castagnoli then kept_with sums.castagnoli p else sums.castagnoli;
  ieee = if wants wanted ieee then kept_with sums.ieee p else sums.ieee;
}

-- once pieces came, in this order
abbrev pub all_summed : Option ℕ → Checksums → List Piece → Checksums
all_summed wanted sums pieces = fold (summed wanted) sums pieces

-- the checksum of this type, as an EOF carries it: 0 for the null checksum, and if the type isn't
-- known
unfoldable pub sum_told : ℕ → Checksums → ℕ
sum_told kind sums =
    if kind == modular then sums.modular
    else if kind == proximity then written32 sums.proximity.kind sums.proximity.left
    else if kind == castagnoli then written32 sums.castagnoli.kind sums.castagnoli.left
    else if kind == ieee then written32 sums.ieee.kind sums.ieee.left
    else 0

-- Each checksum is a number of thirty-two bits.
abbrev pub SumsFit : Checksums → Type 0
SumsFit sums = (kind : ℕ) → sum_told kind sums < 2 ^ 32

-- What is kept of each type that is wanted is what these pieces leave.
pub record AreSumsOf (wanted : Option ℕ) (pieces : List Piece) (sums : Checksums) : Type 0 where
  pub words : wants wanted modular ≡ true → sums.modular ≡ sum_of pieces
  pub proximity : wants wanted proximity ≡ true → sums.proximity ≡ kept_of Proximity1 pieces
  pub castagnoli : wants wanted castagnoli ≡ true → sums.castagnoli ≡ kept_of Castagnoli pieces
  pub ieee : wants wanted ieee ≡ true → sums.ieee ≡ kept_of Ieee pieces
