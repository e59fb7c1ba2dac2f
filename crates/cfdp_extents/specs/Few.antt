-- How many numbers a set leaves out.
use Rattle.std.specs.Prelude.{ℕ, zero, suc, ◌+◌, Bool, if◌then◌else◌}

-- of so many numbers, from one on, the numbers that fail a test
unfoldable pub left_out : (ℕ → Bool) → ℕ → ℕ → ℕ
left_out has at zero = 0
left_out has at (suc n) = if has at then left_out has (at + 1) n else 1 + left_out has (at + 1) n
