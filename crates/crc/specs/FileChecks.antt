-- The checks of thirty-two bits that a file may have, by the numbers of SANA's registry of checksum
-- types.
use Rattle.std.specs.Prelude.{ℕ, ◌+◌, ◌-◌, ◌*◌, ◌^◌, List, map}
use Rattle.std.specs.Int.{w8, w32, reverse_bits}
use Rattle.crc.specs.declared.thirty_two.Crc32.{Crc32}
use Rattle.crc.specs.declared.thirty_two.Crc32.TheVariants.{Proximity1, Castagnoli, Ieee}
use Rattle.crc.specs.Division.{moved}
use Rattle.crc.specs.Checks.{check_from}

-- the divisor: of 211.2-B, of CRC-32C, and of IEEE 802.3
abbrev pub divisor32 : Crc32 → ℕ
divisor32 Proximity1 = 2 ^ 32 + 2 ^ 23 + 2 ^ 21 + 2 ^ 11 + 2 ^ 2 + 1
divisor32 Castagnoli =
    2 ^ 32 + 2 ^ 28 + 2 ^ 27 + 2 ^ 26 + 2 ^ 25 + 2 ^ 23 + 2 ^ 22 + 2 ^ 20 + 2 ^ 19 + 2 ^ 18
    + 2 ^ 14 + 2 ^ 13 + 2 ^ 11 + 2 ^ 10 + 2 ^ 9 + 2 ^ 8 + 2 ^ 6 + 1
divisor32 Ieee =
    2 ^ 32 + 2 ^ 26 + 2 ^ 23 + 2 ^ 22 + 2 ^ 16 + 2 ^ 12 + 2 ^ 11 + 2 ^ 10 + 2 ^ 8 + 2 ^ 7
    + 2 ^ 5 + 2 ^ 4 + 2 ^ 2 + 2 + 1

-- what it begins with: nothing, or ones
abbrev pub start32 : Crc32 → ℕ
start32 Proximity1 = 0
start32 Castagnoli = 2 ^ 32 - 1
start32 Ieee = 2 ^ 32 - 1

-- an octet as it is divided: the first bit is the highest, or the lowest
abbrev pub octet_read : Crc32 → ℕ → ℕ
octet_read Proximity1 octet = octet
octet_read Castagnoli octet = reverse_bits w8 octet
octet_read Ieee octet = reverse_bits w8 octet

-- how the remainder is written: as it is, or with its bits in reverse order and each of them turned
abbrev pub written32 : Crc32 → ℕ → ℕ
written32 Proximity1 left = left
written32 Castagnoli left = 2 ^ 32 - 1 - reverse_bits w32 left
written32 Ieee left = 2 ^ 32 - 1 - reverse_bits w32 left

-- the remainder of octets, begun with another value
unfoldable pub left_behind : Crc32 → ℕ → List ℕ → ℕ
left_behind kind start octets =
    check_from 32 (divisor32 kind) start (map (octet_read kind) octets)

-- the check of a file
abbrev pub crc32_of : Crc32 → List ℕ → ℕ
crc32_of kind file = written32 kind (left_behind kind (start32 kind) file)

-- the remainder with so many octets of zeros after it
unfoldable pub moved_octets : Crc32 → ℕ → ℕ → ℕ
moved_octets kind count left = moved 32 (divisor32 kind) (8 * count) left
