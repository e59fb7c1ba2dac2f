-- Ranges of a file: the first ones, and how much all of them are.
use Rattle.std.specs.Prelude.{◌≡◌, ℕ, ◌+◌, ◌-◌, ◌^◌, min, List, [], ◌∷◌, length, take}
use Rattle.cfdp_console.specs.declared.ranges.RangeSummary.{RangeSummary}

-- the greatest count
abbrev pub most_counted : ℕ
most_counted = 2 ^ 64 - 1

-- how many octets ranges have together, each from its start up to its end, the end not in it
abbrev pub octets_of : List (ℕ × ℕ) → ℕ
octets_of [] = 0
octets_of (r ∷ rs) = (r.1 - r.0) + octets_of rs

-- These are the first of all ranges, with the number of all of them and of their octets.
pub record Summarizes (all : List (ℕ × ℕ)) (it : RangeSummary) : Type 0 where
  pub first : it.first.items ≡ take it.most all
  pub count : it.count ≡ min (length all) most_counted
  pub octets : it.octets ≡ min (octets_of all) most_counted
