-- The last lines of a log, which the console shows.
use Rattle.std.specs.Prelude.{◌≡◌, ◌++◌, ℕ, List, Option, None, Some, ⊤}
use Rattle.cfdp_console.specs.LastLines.{LinesState}

-- The lines are given these octets, if they are kept.
abbrev pub KeepsOctets : List ℕ → (old new : Option LinesState) → Type 0
KeepsOctets octets None None = ⊤
KeepsOctets octets (Some old) (Some new) = new.came ≡ old.came ++ octets
KeepsOctets octets _ _ = ⊥
