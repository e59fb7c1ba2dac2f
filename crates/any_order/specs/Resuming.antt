-- Two stations over a link that keeps no order. After a station was killed, it may restart, or it
-- may resume.
use Rattle.std.specs.Prelude.{◌≡◌, ◌+◌, ◌<◌, ℕ, List, [], ◌∷◌, ◌++◌, length}
use Rattle.aos_frame.specs.declared.config.Lane.{Lane}
use Rattle.link_stack.specs.Downward.{both_counted_from, first_down}
use Rattle.link_stack.specs.EndToEnd.{made_of}
use Rattle.link_stack.specs.Upward.{first_up}
use Rattle.cfdp_station.specs.declared.config.StationConfig.{StationConfig}
use Rattle.cfdp_resuming.specs.Entity.{IsResumed}
use Rattle.any_order.specs.Calls.{End, Event, Happens, Pair, Setup, Side, at, entity_of, lives, other, setup_of}

-- A station resumes. Its entity is restored. Its link is new: its frames are counted from a number
-- after all numbers of its frames before, and at least one number is left out. The list of what it
-- indicated goes on, so no indication moves to those of the lives before.
pub record Resumes (first : ℕ) (c : StationConfig) (old new : End) : Type 0 where
  pub entity : IsResumed (entity_of old) (entity_of new)
  pub down : new.station.down ≡ both_counted_from first (first_down c.sends c.capacity)
  pub up : new.station.up ≡ first_up c.receives
  pub counted : new.first ≡ first
  pub apart : (lane : Lane) → old.first + length (made_of lane old.sent) < first
  pub sent : new.sent ≡ []
  pub came : new.came ≡ []
  pub heard : new.heard ≡ []
  pub lives_before : new.lives_before ≡ lives old
  pub told_before : new.told_before ≡ old.told_before
  pub heard_before : new.heard_before ≡ old.heard_before ++ old.heard

-- An event at one of the stations, such as a call or a restart; or one of them resumes, and counts
-- its frames from this number on.
pub data LifeEvent : Type 0 where
  Calls : Event → LifeEvent
  ResumesAt : Side → (first : ℕ) → LifeEvent

abbrev pub HappensOrResumes : Setup → LifeEvent → (old new : Pair) → Type 0
HappensOrResumes c (Calls event) old new = Happens c event old new
HappensOrResumes c (ResumesAt s first) old new =
    Resumes first (setup_of s c) (at s old) (at s new) × (new.puts ≡ old.puts)
    × (at (other s) new ≡ at (other s) old)

abbrev pub HappenOrResume : Setup → List LifeEvent → (old new : Pair) → Type 0
HappenOrResume c [] old new = new ≡ old
HappenOrResume c (event ∷ events) old new =
    (mid : Pair) × HappensOrResumes c event old mid × HappenOrResume c events mid new
