-- What polls, flushes and frames answer and do, in the words of the station's own clauses.
use Rattle.std.specs.Prelude.{◌≡◌, ◌≢◌, ◌↔◌, ◌+◌, ◌*◌, ◌-◌, ◌^◌, ◌<◌, ◌≤◌, ℕ, min, List, length, Option, None, IsSomeAnd, Result, IfOk, OnErr}
use Rattle.std.specs.declared.alloc.AllocError.{AllocError}
use Rattle.aos_frame.specs.Frame.{frame_len, other_lane}
use Rattle.aos_frame.specs.declared.config.Lane.{Lane}
use Rattle.link_stack.specs.Downward.{DownState, LinkSenderState, MakesFrame, frame_lane, lane_down}
use Rattle.cfdp_entity.specs.Polling.{TakesTurn, turn}
use Rattle.cfdp_entity.specs.Sound.{SpellsTurn}
use Rattle.cfdp_station.specs.Link.{FlushesBoth, WaitAtMost, HoldsAtMost}
use Rattle.cfdp_station.specs.Polling.{Polls, Shows, next_len, next_room}
use Rattle.cfdp_station.specs.Station.{StationState, KeepsRest}
use Rattle.cfdp_station.specs.Transmitting.{PollsInPart, Transmits, most_polls}
use Rattle.cfdp_station.specs.declared.pumping.Until.TheVariants.{Frame}
use Rattle.cfdp_station.specs.declared.polled.Polled.{Polled}
use Rattle.cfdp_station.specs.declared.polled.Polled.TheVariants.{Moved, Full}
use Rattle.cfdp_c.specs.Codes.{no_room, nothing, ok, poll_answer, transmit_answer}

-- No more whole frames wait in each lane than could ever wait there before.
abbrev pub KeepsAhead : (old new : DownState) → Type 0
KeepsAhead old new =
    (lane : Lane) (frames : ℕ) → HoldsAtMost frames (lane_down lane old) →
    WaitAtMost frames (lane_down lane new)

-- A poll moved the PDU whose turn it was, read from what is borrowed, or this is why not.
pub record PollsOne (answer : ℕ) (lent old new : StationState) : Type 0 where
  pub told : Result Polled AllocError
  pub code : answer ≡ poll_answer told
  pub polled : IfOk told (λ p. Polls p lent new)
  pub spells : IfOk told (λ p. p ≡ Moved → SpellsTurn (turn lent.entity.state) lent.entity.state)
  pub shows : IfOk told (λ p. Shows p old.entity.state new.entity.state)
  pub full : IfOk told (λ p. (p ≡ Full)
      ↔ (next_room old.entity.state old.down < next_len old.entity.state))
  pub lacks : OnErr told (TakesTurn (next_room old.entity.state old.down) old.entity.state)
  pub err : OnErr told (new ≡ old)
  pub ahead : KeepsAhead old.down new.down

-- The begun frame of each lane was filled.
pub record FillsFrames (old new : StationState) : Type 0 where
  pub flushed : FlushesBoth old.down new.down
  pub rest : KeepsRest old new
  pub ahead : KeepsAhead old.down new.down

-- At most `frames` whole frames of a lane can wait: as many as its capacity and a flush can fill.
abbrev pub IsAhead : ℕ → LinkSenderState → Type 0
IsAhead frames lane =
    HoldsAtMost frames lane × (frames * lane.link.zone ≤ lane.capacity + 2047)

-- At most `frames` whole frames can wait in both lanes, whatever is sent and flushed. No number
-- says more than the greatest of 64 bits.
pub record AreAhead (frames : ℕ) (down : DownState) : Type 0 where
  pub directives : ℕ
  pub file_data : ℕ
  pub sum : frames ≡ min (directives + file_data) (2 ^ 64 - 1)
  pub first : IsAhead directives down.directives
  pub second : IsAhead file_data down.file_data

-- The oldest whole frame of the lane that goes first was written, and the other lane is as it was.
pub record MakesNext (frame : List ℕ) (lane : Lane) (old new : DownState) : Type 0 where
  pub made : MakesFrame frame (lane_down lane old) (lane_down lane new)
  pub other : lane_down (other_lane lane) new ≡ lane_down (other_lane lane) old
  pub packet_count : new.packet_count ≡ old.packet_count

-- The next whole frame was written to room of its length, directives first, or no frame waits.
pub record GivesFrame (answer : ℕ) (room_before room_now : List ℕ) (old new : StationState)
    : Type 0 where
  pub short : (answer ≡ no_room) ↔ (length room_before ≢ frame_len old.down.directives.link)
  pub none : length room_before ≡ frame_len old.down.directives.link →
      ((answer ≡ nothing) ↔ (frame_lane old.down ≡ None))
  pub made : answer ≡ ok →
      IsSomeAnd (frame_lane old.down) (λ lane. MakesNext room_now lane old.down new.down)
  pub kept : answer ≢ ok → (new ≡ old) × (room_now ≡ room_before)
  pub rest : KeepsRest old new

-- The station was polled for its next frame, which is this one; or there was none, or no memory for
-- one of the polls.
pub record Sends (answer : ℕ) (frame : List ℕ) (old new : StationState) : Type 0 where
  pub told : Result (Option Lane) AllocError
  pub code : answer ≡ transmit_answer told
  pub sent : IfOk told (λ lane. Transmits lane frame old new)
  pub err : OnErr told (PollsInPart Frame most_polls old new)

-- That frame was written to room of its length; if the room has another, nothing changed.
pub record TransmitsTo (answer : ℕ) (room_before room_now : List ℕ) (old new : StationState)
    : Type 0 where
  pub short : (answer ≡ no_room) ↔ (length room_before ≢ frame_len old.down.directives.link)
  pub same : answer ≡ no_room → new ≡ old
  pub sends : answer ≢ no_room → Sends answer room_now old new
  pub kept : answer ≢ ok → room_now ≡ room_before
