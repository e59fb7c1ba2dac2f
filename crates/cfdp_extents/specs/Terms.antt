-- The ranges, the gaps, the end and the front of a set of offsets, as functions of the set.
use Rattle.std.specs.Prelude.{ℕ, zero, suc, ◌+◌, ◌-◌, ◌==◌, max, min, Bool, not, List, [], ◌∷◌, Option, None, Some, if◌then◌else◌}
use Rattle.std.specs.FinSet as set
use Rattle.cfdp_extents.specs.Offsets.{Offsets}

-- an offset before ranges that start after it
abbrev pub joined : ℕ → List (ℕ × ℕ) → List (ℕ × ℕ)
joined at [] = (at, at + 1) ∷ []
joined at (r ∷ rs) = if r.0 == at + 1 then (at, r.1) ∷ rs else (at, at + 1) ∷ r ∷ rs

-- of so many offsets from one on, the offsets that pass a test, as ascending ranges no two of which
-- touch
unfoldable pub ranges_in : (ℕ → Bool) → ℕ → ℕ → List (ℕ × ℕ)
ranges_in passes at zero = []
ranges_in passes at (suc n) =
    if passes at then joined at (ranges_in passes (at + 1) n) else ranges_in passes (at + 1) n

-- the gaps of a set, from an offset up to a limit
unfoldable pub gaps_of : Offsets → ℕ → ℕ → List (ℕ × ℕ)
gaps_of held start limit = ranges_in (λ n. not (set.contains held n)) start (limit - start)

unfoldable pub end_of_items : List ℕ → ℕ
end_of_items [] = 0
end_of_items (k ∷ ks) = max (k + 1) (end_of_items ks)

-- one more than the greatest offset held; 0 if none is
unfoldable pub end_of : Offsets → ℕ
end_of held = end_of_items (set.items held)

-- the ranges that a set is made of
unfoldable pub ranges_of : Offsets → List (ℕ × ℕ)
ranges_of held = ranges_in (set.contains held) 0 (end_of held)

-- the front of the first range, at most `max` offsets of it
abbrev pub front_in : List (ℕ × ℕ) → ℕ → Option (ℕ × ℕ)
front_in [] max = None
front_in (r ∷ rs) max = if max == 0 then None else Some (r.0, min r.1 (r.0 + max))

-- the front of a set
unfoldable pub front_of : Offsets → ℕ → Option (ℕ × ℕ)
front_of held max = front_in (ranges_of held) max
