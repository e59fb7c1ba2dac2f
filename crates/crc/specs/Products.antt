-- Products of polynomials, modulo the divisor.
use Rattle.std.specs.Prelude.{ℕ, zero, suc, ◌*◌, ◌/◌, ◌%◌, bit_xor}
use Rattle.crc.specs.Division.{reduced}

-- n times m, by hand: for each of the `count` coefficients of m, the highest first, what stands
-- there is taken times x, and n is added if the coefficient is one
unfoldable pub product : ℕ → ℕ → ℕ → ℕ → ℕ → ℕ
product degree divisor zero n m = 0
product degree divisor (suc count) n m =
    bit_xor (reduced degree divisor (2 * product degree divisor count n (m / 2))) (m % 2 * n)
