-- How the console of a station is served.
use Rattle.std.specs.Prelude.{◌≡◌, ◌⊎◌, ◌∷◌, ◌++◌, ℕ, List, [], not, slice_get, slice_set, Option, Some, None, IfSome, Result, Ok, Err}
use Rattle.std.specs.Io.KnownBytes.{Consumes}
use Rattle.std.specs.List.{Contains, filter}
use Rattle.std.specs.declared.io.traits.Read.{Ghosts as Read}
use Rattle.std.specs.declared.io.traits.Write.{Ghosts as Write}
use Rattle.cfdp_console.specs.Hearing.{Heard, HearsNothing, octets_of, requests_of}
use Rattle.cfdp_console.specs.declared.asking.Ask.{Ask}
use Rattle.cfdp_console.specs.declared.guard.Guard.{Guard}
use Rattle.cfdp_console.specs.declared.visitor.Visitor.{Visitor}

-- the most connections at a time
abbrev pub most_visitors : ℕ
most_visitors = 16

-- what a visitor of this number asks, with the number
abbrev pub asked_by : ℕ → Option Ask → Option (ℕ × Ask)
asked_by number None = None
asked_by number (Some it) = Some (number, it)

module _ {S : Type 0} {R : Read S} {W : Write S} where
  -- Beside what came before, nothing is noted as come, or what a read of the stream gave.
  abbrev pub NotesRead : List ℕ → Visitor S R W → Type 0
  NotesRead came new = (new.came ≡ came)
      ⊎ ((before : S) × (octets : List ℕ) × (new.came ≡ came ++ octets)
      × Consumes (R.remaining before) (R.remaining new.stream) octets)

  -- nothing comes over a visitor's stream, and nothing is heard of it
  pub record BringsNothing (old new : Visitor S R W) : Type 0 where
    pub number : new.number ≡ old.number
    pub kept : HearsNothing old.caller new.caller
    pub came : new.came ≡ old.came

  -- One call attends to a visitor, which asks this: its next request asks that and may ask it, and
  -- if nothing is asked, no request is lost but one that is denied (`Heard`). The
  -- request is one of the octets that came over the visitor's stream.
  pub record Attends (guard : Guard) (old new : Visitor S R W) (asked : Option Ask) : Type 0 where
    pub number : new.number ≡ old.number
    pub heard : Heard guard old.caller new.caller asked
    pub came : IfSome asked (λ _. octets_of new.caller ≡ new.came)
    pub read : NotesRead old.came new

  -- Visitors are attended to in turn, up to the first one that asks something: that is given with
  -- its number, and the visitors after it stay as they are.
  abbrev pub AttendsInTurn : Guard → List (Visitor S R W) → List (Visitor S R W) → Option (ℕ × Ask)
      → Type 0
  AttendsInTurn guard [] [] given = given ≡ None
  AttendsInTurn guard [] (new ∷ news) given = ⊥
  AttendsInTurn guard (old ∷ olds) [] given = ⊥
  AttendsInTurn guard (old ∷ olds) (new ∷ news) given =
      (Attends guard old new None × AttendsInTurn guard olds news given)
      ⊎ ((it : Ask) × Attends guard old new (Some it) × (news ≡ olds)
      × (given ≡ Some (old.number, it)))

  -- The visitor at this index is attended to, and no other one: what it asks is given with its
  -- number.
  pub record AttendsAt (guard : Guard) (olds news : List (Visitor S R W)) (place : ℕ)
      (given : Option (ℕ × Ask)) : Type 0 where
    pub old : Visitor S R W
    pub new : Visitor S R W
    pub asked : Option Ask
    pub was : slice_get olds place ≡ Some old
    pub is : news ≡ slice_set olds place new
    pub attends : Attends guard old new asked
    pub asks : given ≡ asked_by old.number asked

  -- those whose stream needn't be closed yet
  abbrev pub staying : List (Visitor S R W) → List (Visitor S R W)
  staying visitors = filter (λ visitor. not visitor.is_over) visitors

  -- nothing came of this visitor yet
  pub record IsNew (visitor : Visitor S R W) : Type 0 where
    pub came : visitor.came ≡ []
    pub requests : requests_of visitor.caller ≡ []

  -- No visitor is there that wasn't, but new ones.
  abbrev pub AreKnownOrNew : List (Visitor S R W) → List (Visitor S R W) → Type 0
  AreKnownOrNew olds news = (visitor : Visitor S R W) → Contains news visitor
      → Contains olds visitor ⊎ IsNew visitor

-- the status of the answer to a command, by what became of it: 2xx if it was done alone (RFC
-- 9110, 15.3.1 and 15.5.10)
abbrev pub status_of : {A B : Type 0} → Result A B → ℕ
status_of (Ok done) = 200
status_of (Err why) = 409
