-- Division of polynomials over two elements. A polynomial is written as the number whose binary
-- digit i, from the lowest, is its coefficient of x^i. So the sum of two is `bit_xor`, which is
-- their difference, too, and 2 * n is n times x.
use Rattle.std.specs.Prelude.{◌≡◌, ◌<◌, ℕ, zero, suc, ◌+◌, ◌*◌, ◌/◌, ◌%◌, ◌^◌, bit_xor}

-- less the divisor, of that degree, if it goes into n: n must have at most that degree, and its
-- coefficient there is n / 2 ^ degree
abbrev pub reduced : ℕ → ℕ → ℕ → ℕ
reduced degree divisor n = bit_xor n (n / 2 ^ degree * divisor)

-- the remainder of a division by hand: the coefficients of n, `count` of them, are brought down one
-- by one, the highest first, and the divisor is taken off if it goes into what stands there
unfoldable pub remainder : ℕ → ℕ → ℕ → ℕ → ℕ
remainder degree divisor zero n = 0
remainder degree divisor (suc count) n =
    reduced degree divisor (2 * remainder degree divisor count (n / 2) + n % 2)

-- the remainder of x^count times n, for an n below that degree
unfoldable pub moved : ℕ → ℕ → ℕ → ℕ → ℕ
moved degree divisor zero n = n
moved degree divisor (suc count) n = reduced degree divisor (2 * moved degree divisor count n)

-- n times m, by hand: for each of the `count` coefficients of m, the highest first, what stands
-- there is taken times x, and n is added if the coefficient is one
unfoldable pub times : ℕ → ℕ → ℕ → ℕ
times zero n m = 0
times (suc count) n m = bit_xor (2 * times count n (m / 2)) (m % 2 * n)

-- n is a multiple of the divisor plus r, and r is below it in degree
pub record IsLeft (degree divisor n r : ℕ) : Type 0 where
  pub count : ℕ
  pub quotient : ℕ
  pub below : r < 2 ^ degree
  pub whole : n ≡ bit_xor (times count divisor quotient) r
