-- Cyclic redundancy checks, as the CCSDS books define them (732.0-B-4, 4.1.6.2).
use Rattle.std.specs.Prelude.{ℕ, ◌+◌, ◌-◌, ◌*◌, ◌^◌, ◌==◌, Bool, List, length, take, drop, bit_xor}
use Rattle.cfd_bits.specs.Field.{field}
use Rattle.crc.specs.Division.{remainder}

-- The remainder of x^d M(x) + x^k L(x), divided by the polynomial of degree d. The coefficients of
-- M are the k bits of the octets, the highest power first; the check begins with L.
unfoldable pub check_from : ℕ → ℕ → ℕ → List ℕ → ℕ
check_from d divisor start octets =
    let k = 8 * length octets in
    remainder d divisor (k + d) (bit_xor (field octets 0 k * 2 ^ d) (start * 2 ^ k))

-- x^16 + x^12 + x^5 + 1
abbrev pub divisor16 : ℕ
divisor16 = 2 ^ 16 + 2 ^ 12 + 2 ^ 5 + 1

-- The frame error control of 732.0-B-4 and the CRC of a PDU of 727.0-B-5, begun with another value:
-- if octets follow others, their check begins with the check of the others.
unfoldable pub crc16_behind : ℕ → List ℕ → ℕ
crc16_behind start octets = check_from 16 divisor16 start octets

-- begun with ones
abbrev pub crc16_of : List ℕ → ℕ
crc16_of octets = crc16_behind (2 ^ 16 - 1) octets

-- true if the last two octets are the check of all before them
abbrev pub ends_in_check : List ℕ → Bool
ends_in_check octets =
    field (drop (length octets - 2) octets) 0 16 == crc16_of (take (length octets - 2) octets)
