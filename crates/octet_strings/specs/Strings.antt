-- Octet strings that lie in one buffer.
use Rattle.std.specs.Prelude.{◌≡◌, ℕ, ◌+◌, ◌≤◌, List, [], drop, map, take}
use Rattle.std.specs.List.{All}
use Rattle.octet_strings.specs.declared.Place.{Place}

-- the string at an index
abbrev pub string_at : List ℕ → Place → List ℕ
string_at octets place = take place.len (drop place.from octets)

abbrev pub strings_at : List ℕ → List Place → List (List ℕ)
strings_at octets places = map (λ p. string_at octets p) places

-- each place lies within so many octets
abbrev pub AreWithin : ℕ → List Place → Type 0
AreWithin len places = All (λ p. p.from + p.len ≤ len) places

-- without strings the buffer has no octets
abbrev pub IsClear : List ℕ → List Place → Type 0
IsClear octets places = places ≡ [] → octets ≡ []
