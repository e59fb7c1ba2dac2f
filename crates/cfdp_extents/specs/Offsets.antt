-- Sets of offsets, and the ranges that a set is made of.
use Rattle.std.specs.Prelude.{ℕ, zero, suc, ◌≡◌, ◌+◌, ◌-◌, ◌<◌, ◌≤◌, Bool, ◌&&◌, nat_le, nat_lt, List, [], ◌∷◌}
use Rattle.std.specs.Ordering.{nat_cmp}
use Rattle.std.specs.FinSet as set

-- a set of offsets
abbrev pub Offsets : Type 0
Offsets = set.FinSet nat_cmp

-- true if an offset is `start` or after it, and before `end`
abbrev pub is_within : ℕ → ℕ → ℕ → Bool
is_within start end n = nat_le start n && nat_lt n end

-- so many offsets, from `start` on
unfoldable pub offsets_from : ℕ → ℕ → Offsets
offsets_from start zero = set.empty
offsets_from start (suc n) = set.insert (offsets_from (start + 1) n) start

-- the offsets from `start` up to, and without, `end`
unfoldable pub range : ℕ → ℕ → Offsets
range start end = offsets_from start (end - start)

-- the union of ranges, each its start and its end
unfoldable pub union_of : List (ℕ × ℕ) → Offsets
union_of [] = set.empty
union_of (r ∷ rs) = set.union (range r.0 r.1) (union_of rs)

-- the first of the ranges, if there is one, starts after n
abbrev pub StartBehind : ℕ → List (ℕ × ℕ) → Type 0
StartBehind n [] = Unit {0}
StartBehind n (r ∷ rs) = n < r.0

-- a range with at least one offset, that lies from `start` up to `end`
abbrev pub LiesIn : ℕ → ℕ → ℕ × ℕ → Type 0
LiesIn start end r = (start ≤ r.0) × (r.0 < r.1) × (r.1 ≤ end)

-- ranges that ascend, each with at least one offset, no two of them touching
abbrev pub AreApart : List (ℕ × ℕ) → Type 0
AreApart [] = Unit {0}
AreApart (r ∷ rs) = (r.0 < r.1) × StartBehind r.1 rs × AreApart rs

-- the ranges that a set is made of
pub record AreRangesOf (held : Offsets) (ranges : List (ℕ × ℕ)) : Type 0 where
  pub apart : AreApart ranges
  pub union : union_of ranges ≡ held

-- what lies in a range and is not held
abbrev pub missing_from : Offsets → ℕ → ℕ → Offsets
missing_from held start end = set.difference (range start end) held
