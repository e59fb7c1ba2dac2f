-- What the console's address gives.
use Rattle.std.specs.Prelude.{◌≡◌, ◌⊎◌, ℕ, List, Option, Some, None}
use Rattle.std.specs.declared.io.traits.Read.{Ghosts as Read}
use Rattle.std.specs.declared.io.traits.Write.{Ghosts as Write}
use Rattle.cfdp_console.specs.declared.asking.Ask.{Ask}
use Rattle.cfdp_console.specs.declared.guard.Guard.{Guard}
use Rattle.cfdp_console.specs.Serving.{AreKnownOrNew, AttendsInTurn, staying}
use Rattle.cfdp_console.specs.declared.visitor.Visitor.{Visitor}

-- Nothing is done; or visitors may come and go, and then those that are there are attended to in
-- turn: what is given is asked by a request of the visitor of that number.
abbrev pub AsksAtDoor : {S : Type 0} {R : Read S} {W : Write S} → Guard → List (Visitor S R W)
    → List (Visitor S R W) → Option (ℕ × Ask) → Type 0
AsksAtDoor {S} {R} {W} guard olds news given = ((news ≡ olds) × (given ≡ None))
    ⊎ ((before : List (Visitor S R W)) × AreKnownOrNew olds before
    × AttendsInTurn guard (staying before) news given)
