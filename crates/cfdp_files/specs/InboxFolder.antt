-- The files of a folder that is received into.
use Rattle.std.specs.Prelude.{◌≡◌, ◌⊎◌, ◌≤◌, ℕ}

-- A file of this size may get a name if files of more than `most` octets may not; 0 is no limit.
abbrev pub MayBeNamed : (most size : ℕ) → Type 0
MayBeNamed most size = (most ≡ 0) ⊎ (size ≤ most)
