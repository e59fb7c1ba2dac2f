-- What a call does to the station that a handle has.
use Rattle.std.specs.Prelude.{◌≡◌, ℕ, false, true, Some, IsSomeAnd}
use Rattle.cfdp_c.specs.Codes.{closed}
use Rattle.cfdp_c.specs.Held.{has_folders}
use Rattle.cfdp_c.specs.declared.handle.CfdpStation.{CfdpStation}
use Rattle.cfdp_c.specs.declared.held.Held.{Held}

-- If a handle is open, it stays open, what it has becomes what is related so, and its files are
-- where they were.
abbrev pub Becomes : (old new : CfdpStation) → (Held → Held → Type 0) → Type 0
Becomes old new Related =
    (x : Held) → old.is_open ≡ true → old.slot.value ≡ Some x →
    IsSomeAnd new.slot.value (λ y. (has_folders y.station ≡ has_folders x.station) × Related x y)

-- A call answered this: a handle is open as before, a closed one answers so, and what an open one
-- has becomes what is related so.
pub record Answers (answer : ℕ) (old new : CfdpStation) (Related : Held → Held → Type 0) : Type 0
  where
    pub stays : new.is_open ≡ old.is_open
    pub told : old.is_open ≡ false → answer ≡ closed
    pub becomes : Becomes old new Related
