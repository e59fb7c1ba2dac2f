-- How many gaps a set of offsets has, and what a limit of gaps admits.
use Rattle.std.specs.Prelude.{ℕ, suc, ◌==◌, nat_le, max, Bool, true, List, [], ◌∷◌, length, Option, None, Some, if◌then◌else◌}
use Rattle.std.specs.FinSet as set
use Rattle.cfdp_extents.specs.Offsets.{Offsets, range}
use Rattle.cfdp_extents.specs.Terms.{gaps_of, end_of}

-- how many gaps a set has before its end
unfoldable pub gap_count : Offsets → ℕ
gap_count held = length (gaps_of held 0 (end_of held))

-- a part may be added: with it the set has at most so many gaps, or no more than without it
abbrev pub admits : (most : ℕ) → Offsets → (start end : ℕ) → Bool
admits most held start end =
    nat_le (gap_count (set.union held (range start end))) (max most (gap_count held))

-- the same, if there may be no limit
abbrev pub admits_within : Option ℕ → Offsets → (start end : ℕ) → Bool
admits_within None held start end = true
admits_within (Some most) held start end = admits most held start end

-- Proof-only: of ranges that ascend, how many begin after offset 0. Before each of these is a gap.
abbrev pub gaps_among : List (ℕ × ℕ) → ℕ
gaps_among [] = 0
gaps_among (r ∷ rs) = if r.0 == 0 then length rs else suc (length rs)
