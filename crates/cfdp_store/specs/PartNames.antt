-- The names of the part files of a folder.
use Rattle.std.specs.Prelude.{◌≡◌, ℕ, List, ◌++◌, codes}

-- The name of a part file begins so; no file that was received whole has such a name.
abbrev pub IsPartName : List ℕ → Type 0
IsPartName name = (rest : List ℕ) × (name ≡ codes ".part-" ++ rest)
