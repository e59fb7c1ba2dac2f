-- Proof-only: what settlings and recoveries do to each transaction, beside what `Settling` and
-- `Recovering` say of the world.
use Rattle.std.specs.Prelude.{List, [], ◌∷◌}
use Rattle.link_sim.specs.declared.event.Event.{Event}
use Rattle.link_sim.specs.Recovering.{Recovers, Round}
use Rattle.link_sim.specs.Settling.{GoesWellFrom, first_event}
use Rattle.link_sim.specs.Tracks.{Advances, AllStand, KeepsPutsOf, RunsAlong}
use Rattle.link_sim.specs.Waiting.{AllWait, IgnoreInactivity}
use Rattle.link_sim.specs.World.State.{WorldState}

-- All went well, and each transaction made a run of its own.
pub record GoesOnFrom (from upto : Event) (old new : WorldState) : Type 0 where
  pub well : GoesWellFrom from upto old new
  pub runs : RunsAlong old new

abbrev pub GoesOn : (old new : WorldState) → Type 0
GoesOn old new = GoesOnFrom first_event first_event old new

-- If inactivity is ignored, each round brings those transactions on that stood.
abbrev pub AllAdvance : List Round → WorldState → Type 0
AllAdvance [] w = Unit {0}
AllAdvance (r ∷ rounds) w =
    (IgnoreInactivity w → Advances w r.settled) × AllAdvance rounds r.settled

-- All was settled, and rounds followed, which brought transactions on. If all that was unfinished
-- waited, it stood after the first settling.
pub record RecoversOn (old new : WorldState) : Type 0 where
  pub run : Recovers old new
  pub keeps : KeepsPutsOf old run.first
  pub stands : AllWait old → AllStand old run.first
  pub advance : AllAdvance run.rounds run.first
