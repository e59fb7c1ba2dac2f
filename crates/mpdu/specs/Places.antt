-- Where packets lie in a stream: what the recursive definitions of specs/Stream say, by ranges and
-- sets.
use Rattle.std.specs.Prelude.{ℕ, ◌+◌, ◌*◌, ◌<◌, ◌≤◌, List, [], ◌∷◌, length, Contains}

-- the octets at which the packets start, the first of them at octet a
abbrev pub starts : ℕ → List (List ℕ) → List ℕ
starts a [] = []
starts a (p ∷ ps) = a ∷ starts (a + length p) ps

-- Zone number f, of z octets, is in the span of the octets from a up to b: it has one of them.
abbrev pub IsInSpan : ℕ → ℕ → ℕ → ℕ → Type 0
IsInSpan z a b f = (f * z < b) × (a < f * z + z)

-- the least of the starts that is not before octet `start` lies so many octets after it, in the
-- zone
pub record IsFirstStart (z start : ℕ) (places : List ℕ) (at : ℕ) : Type 0 where
  pub inside : at < z
  pub there : Contains places (start + at)
  pub least : (s : ℕ) → Contains places s → start ≤ s → start + at ≤ s

-- none of the starts lies in the zone
abbrev pub HasNoStart : ℕ → ℕ → List ℕ → Type 0
HasNoStart z start places = (s : ℕ) → Contains places s → start ≤ s → start + z ≤ s
