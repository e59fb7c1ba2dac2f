-- What a station does for the next frame that leaves it.
use Rattle.std.specs.Prelude.{◌≡◌, ◌≢◌, ◌⊎◌, ◌<◌, ℕ, zero, suc, Bool, true, false, List, Option, Some, None, ⊤}
use Rattle.aos_frame.specs.Frame.{other_lane}
use Rattle.aos_frame.specs.declared.config.Lane.{Lane}
use Rattle.link_stack.specs.Downward.{Flushes, MakesFrame, frame_lane, lane_down}
use Rattle.cfdp_entity.specs.Entity.{entity_lent}
use Rattle.cfdp_entity.specs.Gives.{CountsOutbox}
use Rattle.cfdp_entity.specs.Polling.{turn}
use Rattle.cfdp_entity.specs.Sound.{SpellsTurn}
use Rattle.cfdp_station.specs.Link.{FlushesBoth}
use Rattle.cfdp_station.specs.Polling.{Polls, Shows, stored_by_poll}
use Rattle.cfdp_station.specs.Station.{StationState, KeepsRest, station_lent}
use Rattle.cfdp_station.specs.declared.polled.Polled.{Polled}
use Rattle.cfdp_station.specs.declared.polled.Polled.TheVariants.{Moved, Nothing, Full, SourceFailed}
use Rattle.cfdp_station.specs.declared.pumping.Until.{Until}
use Rattle.cfdp_station.specs.declared.pumping.Until.TheVariants.{Frame, Rest}

-- A step so many times, one after another.
abbrev pub Times : {S : Type 0} → (Step : S → S → Type 0) → ℕ → (old new : S) → Type 0
Times Step zero old new = new ≡ old
Times {S} Step (suc count) old new = (mid : S) × Times Step count old mid × Step mid new

-- ---- polls
-- More may be due after a poll that answered so.
abbrev pub IsMore : Polled → Type 0
IsMore Moved = ⊤
IsMore SourceFailed = ⊤
IsMore Nothing = ⊥
IsMore Full = ⊥

-- A station was polled, and answered this. What it read of a file is what its outbox has then; if
-- it showed other octets than before, the files stand no more.
pub record PollsOnce (answer : Polled) (old new : StationState) : Type 0 where
  pub polls : Polls answer (station_lent new old) new
  pub shows : Shows answer old.entity.state new.entity.state
  pub spells : let lent = entity_lent new.entity.state old.entity.state in answer ≡ Moved
      → SpellsTurn (turn lent) lent
  pub outbox : CountsOutbox (stored_by_poll answer) old.entity.outbox_failures
      new.entity.outbox_failures
  pub inbox : new.entity.inbox_failures ≡ old.entity.inbox_failures

-- Polls go on here, or stop ahead of the next one: at a whole frame that waits, if they are made
-- until there is one.
abbrev pub GoOn : Until → StationState → Type 0
GoOn Frame s = frame_lane s.down ≡ None
GoOn Rest s = ⊤

abbrev pub StopAt : Until → StationState → Type 0
StopAt Frame s = frame_lane s.down ≢ None
StopAt Rest s = ⊥

-- A poll moved a PDU, or the outbox failed in it.
abbrev pub MovesMore : Until → (old new : StationState) → Type 0
MovesMore until old new = GoOn until old
    × ((answer : Polled) × IsMore answer × PollsOnce answer old new)

-- A poll found that nothing is due or has room.
abbrev pub FindsNone : Until → (old new : StationState) → Type 0
FindsNone until old new = GoOn until old
    × ((answer : Polled) × (IsMore answer → ⊥) × PollsOnce answer old new)

-- how polls end of which at most so many are made, and `true` if nothing is due or has room;
-- otherwise they stopped, or each of them found more
abbrev pub EndsPolls : Until → (most : ℕ) → (rests : Bool) → (count : ℕ)
    → (last new : StationState) → Type 0
EndsPolls until most true count last new = (count < most) × FindsNone until last new
EndsPolls until most false count last new =
    (((count < most) × StopAt until last) ⊎ (count ≡ most)) × (new ≡ last)

-- A station was polled until nothing is due or has room, or a whole frame waits, at most so often.
pub record PollsUntil (until : Until) (most : ℕ) (rests : Bool) (old new : StationState)
    : Type 0 where
  pub count : ℕ
  pub last : StationState
  pub moved : Times (MovesMore until) count old last
  pub ends : EndsPolls until most rests count last new

-- The next of these polls found no memory, and changed nothing.
pub record PollsInPart (until : Until) (most : ℕ) (old new : StationState) : Type 0 where
  pub count : ℕ
  pub few : count < most
  pub moved : Times (MovesMore until) count old new

-- ---- what is begun
-- What is begun in the lane of directives was filled up.
pub record FillsDirectives (old new : StationState) : Type 0 where
  pub fills : Flushes old.down.directives new.down.directives
  pub file_data : new.down.file_data ≡ old.down.file_data
  pub packet_count : new.down.packet_count ≡ old.down.packet_count
  pub keeps : KeepsRest old new

-- What is begun was filled up: in both lanes if nothing is due or has room; otherwise in the lane of
-- directives, so that none waits for the file data after it.
abbrev pub FillsUp : (rests : Bool) → (old new : StationState) → Type 0
FillsUp true old new = FlushesBoth old.down new.down × KeepsRest old new
FillsUp false old new = FillsDirectives old new

-- A station was polled for its next frame, at most so often, and what is begun was filled up.
pub record Pulls (most : ℕ) (old new : StationState) : Type 0 where
  pub rests : Bool
  pub polled : StationState
  pub polls : PollsUntil Frame most rests old polled
  pub fills : FillsUp rests polled new

-- ---- the frame
-- The oldest whole frame of the lane that goes first was written, and taken off; the other lane is
-- as it was.
pub record GivesFrame (lane : Lane) (frame : List ℕ) (old new : StationState) : Type 0 where
  pub is_next : frame_lane old.down ≡ Some lane
  pub made : MakesFrame frame (lane_down lane old.down) (lane_down lane new.down)
  pub other : lane_down (other_lane lane) new.down ≡ lane_down (other_lane lane) old.down
  pub packet_count : new.down.packet_count ≡ old.down.packet_count
  pub rest : KeepsRest old new

-- a frame of this lane, or none
abbrev pub Gives : Option Lane → (frame : List ℕ) → (old new : StationState) → Type 0
Gives (Some lane) frame old new = GivesFrame lane frame old new
Gives None frame old new = (frame_lane old.down ≡ None) × (new ≡ old)

-- the most polls for one frame that is transmitted: more than there are files that can fail to be
-- read, and PDUs that fit into a frame of each lane
abbrev pub most_polls : ℕ
most_polls = 8192

-- A station was polled for its next frame, and gave it, if there was one.
pub record Transmits (answer : Option Lane) (frame : List ℕ) (old new : StationState) : Type 0 where
  pub pulled : StationState
  pub pulls : Pulls most_polls old pulled
  pub gives : Gives answer frame pulled new
