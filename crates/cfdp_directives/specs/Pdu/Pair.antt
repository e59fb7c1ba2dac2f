-- Pairs of offsets, each a file-size field of w octets.
use Rattle.std.specs.Prelude.{◌≡◌, ◌/◌, ◌%◌, ◌*◌, ◌^◌, ℕ, zero, suc, ◌<◌, ◌≤◌, Bool, true, false, List, [], ◌∷◌, ◌++◌, length, drop}
use Rattle.cfd_bits.specs.Field.{field, octets}
use Rattle.cfdp_directives.specs.Pdu.Codes.{file_size_octets}
use Rattle.cfdp_directives.specs.declared.pdu.pairs.Form.{Form}
use Rattle.cfdp_directives.specs.declared.pdu.pairs.Form.TheVariants as form

-- The octets are these pairs.
abbrev pub ArePairs : ℕ → List (ℕ × ℕ) → List ℕ → Type 0
ArePairs w [] octets = length octets ≡ 0
ArePairs w (p ∷ ps) octets =
    (2 * w ≤ length octets)
    × (field octets 0 (8 * w) ≡ p.0)
    × (field octets (8 * w) (8 * w) ≡ p.1)
    × ArePairs w ps (drop (2 * w) octets)

-- the octets of a pair
abbrev pub pair : ℕ → ℕ × ℕ → List ℕ
pair w p = octets w p.0 ++ octets w p.1

-- Both numbers fit their fields.
abbrev pub IsPair : ℕ → ℕ × ℕ → Type 0
IsPair w p = (p.0 < 256 ^ w) × (p.1 < 256 ^ w)

-- the numbers of the pairs, in a row
abbrev pub numbers : List (ℕ × ℕ) → List ℕ
numbers [] = []
numbers (p ∷ ps) = p.0 ∷ p.1 ∷ numbers ps

-- so many pairs, as the octets spell them
unfoldable pub pairs_of : ℕ → ℕ → List ℕ → List (ℕ × ℕ)
pairs_of w zero octets = []
pairs_of w (suc count) octets =
    (field octets 0 (8 * w), field octets (8 * w) (8 * w)) ∷ pairs_of w count (drop (2 * w) octets)

-- octets of a pair of a large file, and of one that isn't
abbrev pub pair_octets : Bool → ℕ
pair_octets large = 2 * file_size_octets large

-- the pairs that fill the octets
abbrev pub pairs_read : Bool → List ℕ → List (ℕ × ℕ)
pairs_read large octets =
    pairs_of (file_size_octets large) (length octets / pair_octets large) octets

-- pairs as they lie in octets read, or as numbers
abbrev pub pairs_in : Form → List (ℕ × ℕ)
pairs_in (form.Small octets) = pairs_read false octets.now
pairs_in (form.Large octets) = pairs_read true octets.now
pairs_in (form.Given pairs) = pairs.now

-- Octets read are whole pairs.
abbrev pub IsWhole : Form → Type 0
IsWhole (form.Small octets) = length octets.now % pair_octets false ≡ 0
IsWhole (form.Large octets) = length octets.now % pair_octets true ≡ 0
IsWhole (form.Given pairs) = Unit {0}
