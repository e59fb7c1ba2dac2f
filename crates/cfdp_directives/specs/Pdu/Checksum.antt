-- The checksum of a file. The modular one (CCSDS 727.0-B-5, 4.2.2): the file as words of four
-- octets, the last filled with zeros, summed modulo 2^32. An octet at offset n counts
-- 256^(3 - n mod 4) in its word. The other ones are checks of thirty-two bits (`crc/specs`).
use Rattle.std.specs.Prelude.{ℕ, ◌+◌, ◌-◌, ◌*◌, ◌%◌, ◌^◌, List, [], ◌∷◌, fold, slice_index, ◌==◌, if◌then◌else◌}
use Rattle.crc.specs.declared.thirty_two.Crc32.TheVariants.{Proximity1, Castagnoli, Ieee}
use Rattle.crc.specs.FileChecks.{crc32_of}
use Rattle.cfdp_directives.specs.Pdu.Codes.{modular, proximity, castagnoli, ieee}
pub use Rattle.crc.specs.Pieces.{Piece, IsOf, Cuts, covers}

-- the words of a file: octet 0 is the most significant of the first
unfoldable pub word_sum : List ℕ → ℕ
word_sum [] = 0
word_sum (a ∷ []) = a * 256 ^ 3
word_sum (a ∷ b ∷ []) = a * 256 ^ 3 + b * 256 ^ 2
word_sum (a ∷ b ∷ c ∷ []) = a * 256 ^ 3 + b * 256 ^ 2 + c * 256
word_sum (a ∷ b ∷ c ∷ d ∷ rest) = a * 256 ^ 3 + b * 256 ^ 2 + c * 256 + d + word_sum rest

-- the modular checksum of a file
abbrev pub modular_checksum : List ℕ → ℕ
modular_checksum file = word_sum file % 2 ^ 32

-- the checksum that an EOF carries, by its type: 0 for the null checksum, and if the type isn't
-- known
abbrev pub checksum_of : ℕ → List ℕ → ℕ
checksum_of kind file =
    if kind == modular then modular_checksum file
    else if kind == proximity then crc32_of Proximity1 file
    else if kind == castagnoli then crc32_of Castagnoli file
    else if kind == ieee then crc32_of Ieee file
    else 0

-- what an octet counts for at this offset
abbrev pub weight : ℕ → ℕ
weight n = 256 ^ (3 - n % 4)

-- what octets from this offset on add
unfoldable pub sum_at : ℕ → List ℕ → ℕ
sum_at offset [] = 0
sum_at offset (b ∷ bytes) = b * weight offset + sum_at (offset + 1) bytes

-- what two lanes add: sums of the octets at even indices, and of those at odd indices, of words
abbrev pub lane_sum : List ℕ → List ℕ → ℕ → ℕ
lane_sum even odd n =
    slice_index even n * 256 ^ 3 + slice_index odd n * 256 ^ 2
    + slice_index even (n + 1) * 256 + slice_index odd (n + 1)

-- the sum once a piece was added
abbrev pub added : ℕ → Piece → ℕ
added sum p = (sum + sum_at p.offset p.bytes) % 2 ^ 32

-- the sum once pieces were added, in this order
abbrev pub sum_of : List Piece → ℕ
sum_of pieces = fold added 0 pieces
