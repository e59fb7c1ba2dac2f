-- Which bits of some octets were turned on their way, as a polynomial over two elements: the last
-- bit is the coefficient of x^0.
use Rattle.std.specs.Prelude.{◌≡◌, ℕ, ◌+◌, ◌*◌, ◌^◌, ◌<◌, ◌⊎◌, List, length, bit_xor}
use Rattle.cfd_bits.specs.Field.{field}

-- the bits that differ between the octets that were sent and the octets that came, which are as
-- many
abbrev pub turned : (sent came : List ℕ) → ℕ
turned sent came =
    bit_xor (field sent 0 (8 * length sent)) (field came 0 (8 * length sent))

-- Of so many bits all that are turned lie within 16 in a row. The first and the last of these are
-- turned, and any between may be. There are `behind` bits after them.
pub record IsBurst (count turned : ℕ) : Type 0 where
  pub bits : ℕ
  pub before : ℕ
  pub behind : ℕ
  pub place : count ≡ before + behind
  pub some : 0 < bits
  pub few : bits < 2 ^ 16
  pub within : bits < 2 ^ before
  pub are : turned ≡ bits * 2 ^ behind

-- Two bits are turned, or three, each given by how many bits are after it.
pub record AreTwo (count turned : ℕ) : Type 0 where
  pub first : ℕ
  pub last : ℕ
  pub apart : last < first
  pub within : first < count
  pub are : turned ≡ bit_xor (2 ^ first) (2 ^ last)

pub record AreThree (count turned : ℕ) : Type 0 where
  pub first : ℕ
  pub second : ℕ
  pub last : ℕ
  pub within_first : first < count
  pub within_second : second < count
  pub within_last : last < count
  pub are : turned ≡ bit_xor (bit_xor (2 ^ first) (2 ^ second)) (2 ^ last)

-- Bits were turned: one, two or three, or any within 16 in a row. One is a burst.
abbrev pub IsDamaged : (sent came : List ℕ) → Type 0
IsDamaged sent came =
    (length came ≡ length sent)
    × (IsBurst (8 * length sent) (turned sent came)
    ⊎ (AreTwo (8 * length sent) (turned sent came)
    ⊎ AreThree (8 * length sent) (turned sent came)))
