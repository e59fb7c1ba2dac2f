-- What a recovered world is, what a recovery does, and what ends it before.
use Rattle.std.specs.Prelude.{◌≡◌, ◌⊎◌, ◌≤◌, ◌^◌, ◌+◌, ◌-◌, ℕ, List, [], ◌∷◌, length, min, max}
use Rattle.cfdp_timers.specs.Armed.{Armed}
use Rattle.cfdp_timers.specs.ButInactivity.{OnlyInactivity, IsLeastOther}
use Rattle.station_pair.specs.declared.side.Side.{Side}
use Rattle.station_pair.specs.declared.side.Side.TheVariants.{One, Two}
use Rattle.link_sim.specs.declared.event.Event.TheVariants as event
use Rattle.link_sim.specs.declared.event.Applied.TheVariants as did
use Rattle.station_pair.specs.declared.settle_error.SettleError.{SettleError}
use Rattle.station_pair.specs.declared.settle_error.SettleError.TheVariants.{NoMemory}
use Rattle.station_pair.specs.declared.recover_error.RecoverError.{RecoverError}
use Rattle.station_pair.specs.declared.recover_error.RecoverError.TheVariants.{Settle, StillArmed}
use Rattle.link_sim.specs.Settling.{IsSettled, KeepsAll, GoesWell, HasCause, RisesFirst, all_shortages}
use Rattle.link_sim.specs.World.State.{WorldState, entity_at}
use Rattle.link_sim.specs.World.Steps.{FindsNoMemory, Steps}

-- ---- timers
-- the timers that are armed at a station
abbrev pub armed_at : Side → WorldState → Armed
armed_at s w = (entity_at s w).table.armed

-- All is settled, and at neither station a timer is armed except those of Inactivity.
pub record IsRecovered (w : WorldState) : Type 0 where
  pub settled : IsSettled w
  pub only_inactivity : (s : Side) → OnlyInactivity (armed_at s w)

-- The station that is given the time next, and which time: the earliest deadline of its timers,
-- except those of Inactivity. The second station is given it only if the first one has no such
-- timer.
abbrev pub IsNext : Side → ℕ → WorldState → Type 0
IsNext One now w = IsLeastOther (armed_at One w) now
IsNext Two now w = OnlyInactivity (armed_at One w) × IsLeastOther (armed_at Two w) now

-- ---- what a recovery does
-- A station was given the time that is next, and nothing was short in that.
pub record TellsNext (s : Side) (now : ℕ) (old new : WorldState) : Type 0 where
  pub next : IsNext s now old
  pub ticks : Steps (event.Tick s now) did.Applied old new
  pub spared : KeepsAll (all_shortages old) (all_shortages new)

-- at which station which time was given, the world then, and the world once it was settled again
pub record Round : Type 0 where
  pub side : Side
  pub now : ℕ
  pub ticked : WorldState
  pub settled : WorldState

-- In a settled world a station was given its next time, and all was settled again.
pub record IsRound (old : WorldState) (r : Round) : Type 0 where
  pub rests : IsSettled old
  pub tells : TellsNext r.side r.now old r.ticked
  pub settles : GoesWell r.ticked r.settled
  pub settled : IsSettled r.settled

-- These rounds led from the old world to the new one, one after another.
abbrev pub AreRounds : List Round → (old new : WorldState) → Type 0
AreRounds [] old new = new ≡ old
AreRounds (r ∷ rounds) old new = IsRound old r × AreRounds rounds r.settled new

abbrev pub most_rounds : ℕ
most_rounds = 24576

-- All was settled, and so many rounds followed; nothing else happened, and nothing was short.
pub record Recovers (old new : WorldState) : Type 0 where
  pub first : WorldState
  pub settles : GoesWell old first
  pub settled : IsSettled first
  pub rounds : List Round
  pub are : AreRounds rounds first new
  pub few : length rounds ≤ most_rounds

-- ---- what ends a recovery before
-- a count raised so often; it stays at the greatest value
abbrev pub raised_by : ℕ → ℕ → ℕ
raised_by n count = max count (min (count + n) (2 ^ 64 - 1))

-- As many rounds as there may be went by, the time was given once in each, and a timer other than
-- Inactivity is armed still.
pub record StaysArmed (old new : WorldState) : Type 0 where
  pub run : Recovers old new
  pub all : length run.rounds ≡ most_rounds
  pub ticks : new.ticks ≡ raised_by most_rounds old.ticks
  pub settled : IsSettled new
  pub armed : (s : Side) × (deadline : ℕ) × IsLeastOther (armed_at s new) deadline

-- A time that a station was given ended it with this error: that happened then, or no memory was
-- found.
abbrev pub TickEnds : SettleError → Side → ℕ → (old new : WorldState) → Type 0
TickEnds error s now old new =
    (Steps (event.Tick s now) did.Applied old new
    × RisesFirst error (all_shortages old) (all_shortages new))
    ⊎ ((error ≡ NoMemory) × FindsNoMemory s old new)

-- A round ended with this error: when the next time was given, or in the settling after that.
pub record RoundEnds (error : SettleError) (old new : WorldState) : Type 0 where
  pub side : Side
  pub now : ℕ
  pub next : IsNext side now old
  pub ends : TickEnds error side now old new
      ⊎ ((ticked : WorldState) × TellsNext side now old ticked × HasCause error ticked new)

-- A recovery ended with this error: the first settling did, or a round after those that went well.
abbrev pub HasEnded : SettleError → (old new : WorldState) → Type 0
HasEnded error old new =
    HasCause error old new ⊎ ((last : WorldState) × Recovers old last × RoundEnds error last new)

abbrev pub EndsBy : RecoverError → (old new : WorldState) → Type 0
EndsBy (Settle error) old new = HasEnded error old new
EndsBy StillArmed old new = StaysArmed old new
