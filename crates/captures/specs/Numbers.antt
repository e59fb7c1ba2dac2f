-- Numbers in octets, in either order.
use Rattle.std.specs.Prelude.{ℕ, ◌+◌, List, [], ◌∷◌, slice_index}
use Rattle.std.specs.Int.{from_be_bytes, from_le_bytes, w16, w32}
use Rattle.captures.specs.declared.order.ByteOrder.{ByteOrder}
use Rattle.captures.specs.declared.order.ByteOrder.TheVariants.{BigEndian, LittleEndian}

-- the four octets from octet `at` on, and the two
abbrev pub four : List ℕ → ℕ → List ℕ
four text at = slice_index text at ∷ slice_index text (at + 1) ∷ slice_index text (at + 2)
    ∷ slice_index text (at + 3) ∷ []

abbrev pub two : List ℕ → ℕ → List ℕ
two text at = slice_index text at ∷ slice_index text (at + 1) ∷ []

-- the number that they spell: with the most significant octet first, or the least
unfoldable pub number : ByteOrder → List ℕ → ℕ → ℕ
number BigEndian text at = from_be_bytes w32 (four text at)
number LittleEndian text at = from_le_bytes w32 (four text at)

unfoldable pub short : ByteOrder → List ℕ → ℕ → ℕ
short BigEndian text at = from_be_bytes w16 (two text at)
short LittleEndian text at = from_le_bytes w16 (two text at)
