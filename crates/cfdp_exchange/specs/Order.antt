-- Frames that change places on their way.
use Rattle.std.specs.Prelude.{ℕ, ◌≤◌, ◌*◌}

-- If so many of the frames that came came late, this is reported: eight, and each tenth one.
abbrev pub IsOften : (late came : ℕ) → Type 0
IsOften late came = (8 ≤ late) × (came ≤ late * 10)
