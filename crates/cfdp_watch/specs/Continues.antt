-- What is written part by part, each part as it is seen.
use Rattle.std.specs.Prelude.{ℕ, List, ◌++◌, Option}
use Rattle.cfdp_watch.specs.declared.sighting.Sighting.{Sighting}

-- If what was written from some start on shows those seen before, it now shows these after them:
-- whatever they were, and in however many parts they were written.
abbrev pub Continues : (Before After : List Sighting → (start now : Option (List ℕ)) → Type 0)
    → List Sighting → (old new : Option (List ℕ)) → Type 0
Continues Before After more old new = (seen : List Sighting) → (start : Option (List ℕ))
    → Before seen start old → After (seen ++ more) start new
