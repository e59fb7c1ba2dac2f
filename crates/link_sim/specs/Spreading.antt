-- What one station sends if it is polled until nothing is due.
use Rattle.std.specs.Prelude.{◌≡◌, ◌⊎◌, ℕ, zero, suc}
use Rattle.station_pair.specs.declared.side.Side.{Side}
use Rattle.link_sim.specs.declared.event.Event.TheVariants as event
use Rattle.link_sim.specs.declared.event.Applied.{Applied}
use Rattle.link_sim.specs.declared.event.Applied.TheVariants as did
use Rattle.link_sim.specs.World.State.{WorldState}
use Rattle.link_sim.specs.World.Steps.{FindsNoMemory, Steps}

-- The same step so many times, one after another.
abbrev pub Times : (WorldState → WorldState → Type 0) → ℕ → (old new : WorldState) → Type 0
Times Step zero old new = new ≡ old
Times Step (suc count) old new = (mid : WorldState) × Times Step count old mid × Step mid new

-- That step any number of times, one after another.
abbrev pub Many : (WorldState → WorldState → Type 0) → (old new : WorldState) → Type 0
Many Step old new = (count : ℕ) × Times Step count old new

-- A poll did something, or found nothing due.
abbrev pub PollMoves : Side → (old new : WorldState) → Type 0
PollMoves s old new = Steps (event.Poll s) did.Applied old new

abbrev pub PollRests : Side → (old new : WorldState) → Type 0
PollRests s old new = Steps (event.Poll s) did.Nothing old new

-- One flush, whether it made a frame or not.
abbrev pub FlushesOnce : Side → (old new : WorldState) → Type 0
FlushesOnce s old new = (d : Applied) × Steps (event.Flush s) d old new

-- A poll that did something, and a flush after it.
abbrev pub SendsOut : Side → (old new : WorldState) → Type 0
SendsOut s old new = (mid : WorldState) × PollMoves s old mid × FlushesOnce s mid new

-- ---- with a flush after each poll that did something
pub record Spreads (s : Side) (old new : WorldState) : Type 0 where
  pub count : ℕ
  pub last : WorldState
  pub sent : Times (SendsOut s) count old last
  pub rests : PollRests s last new

-- It went on so until a poll or a flush found no memory.
pub record SpreadFindsNoMemory (s : Side) (old new : WorldState) : Type 0 where
  pub count : ℕ
  pub last : WorldState
  pub sent : Times (SendsOut s) count old last
  pub ends : FindsNoMemory s last new
      ⊎ ((mid : WorldState) × PollMoves s last mid × FindsNoMemory s mid new)

-- ---- with one flush after all polls
-- Polls did something, until one found nothing due.
pub record PollsAll (s : Side) (old new : WorldState) : Type 0 where
  pub count : ℕ
  pub last : WorldState
  pub polled : Times (PollMoves s) count old last
  pub rests : PollRests s last new

-- It went on so until a poll found no memory.
pub record PollFindsNoMemory (s : Side) (old new : WorldState) : Type 0 where
  pub count : ℕ
  pub last : WorldState
  pub polled : Times (PollMoves s) count old last
  pub ends : FindsNoMemory s last new

abbrev pub Bursts : Side → (old new : WorldState) → Type 0
Bursts s old new = (rested : WorldState) × PollsAll s old rested × FlushesOnce s rested new

-- It went on so until a poll or the flush found no memory.
abbrev pub BurstFindsNoMemory : Side → (old new : WorldState) → Type 0
BurstFindsNoMemory s old new = PollFindsNoMemory s old new
    ⊎ ((rested : WorldState) × PollsAll s old rested × FindsNoMemory s rested new)
