-- The front of the least gapless range of a set.
use Rattle.std.specs.Prelude.{ℕ, ◌≡◌, ◌⊎◌, ◌+◌, ◌<◌, ◌≤◌, true, false}
use Rattle.std.specs.FinSet as set
use Rattle.cfdp_extents.specs.Offsets.{Offsets, range}

-- from the least offset held, at most `max` offsets, all held, and as many as there are
pub record IsFront (held : Offsets) (max start end : ℕ) : Type 0 where
  pub least : (n : ℕ) → set.contains held n ≡ true → start ≤ n
  pub some : start < end
  pub at_most : end ≤ start + max
  pub gapless : set.is_subset (range start end) held ≡ true
  pub whole : (end ≡ start + max) ⊎ (set.contains held end ≡ false)
