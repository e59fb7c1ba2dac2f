-- Proof-only: the mirrored remainder, and the tables that give it.
use Rattle.std.specs.Prelude.{◌≡◌, ℕ, ◌+◌, ◌<◌, List, [], slice_index, slice_index_or}
use Rattle.std.specs.Int.{w32, reverse_bits, swap_bytes}
use Rattle.crc.specs.declared.thirty_two.Crc32.{Crc32}
use Rattle.crc.specs.declared.thirty_two.Crc32.TheVariants.{Proximity1, Castagnoli, Ieee}
use Rattle.crc.specs.FileChecks.{moved_octets}

-- with its octets or its bits in reverse order: the next octet is then added to its lowest octet,
-- as it stands in a file
abbrev pub mirrored32 : Crc32 → ℕ → ℕ
mirrored32 Proximity1 left = swap_bytes w32 left
mirrored32 Castagnoli left = reverse_bits w32 left
mirrored32 Ieee left = reverse_bits w32 left

-- the remainder with so many octets of zeros after it, both mirrored
abbrev pub mirror_moved : Crc32 → ℕ → ℕ → ℕ
mirror_moved kind count mirror = mirrored32 kind (moved_octets kind count (mirrored32 kind mirror))

-- what the table of so many octets of zeros after an octet has
abbrev pub in_table : List (List ℕ) → ℕ → ℕ → ℕ
in_table tables zeros octet = slice_index (slice_index_or tables zeros []) octet

-- The tables have the remainder of an octet by itself, and with none to seven octets of zeros after
-- it.
abbrev pub AreTables : Crc32 → List (List ℕ) → Type 0
AreTables kind tables = (zeros octet : ℕ) → zeros < 8 → octet < 256
    → in_table tables zeros octet ≡ mirror_moved kind (zeros + 1) octet
