-- What passes in a turn of a port over a link that delivers frames in any order, any number of
-- times, or not at all, and among them octets from which no packet can come; and what is kept of
-- it.
use Rattle.std.specs.Prelude.{◌≡◌, ◌⊎◌, ◌<◌, ℕ, zero, suc, List, [], ◌∷◌, Option, Some, None}
use Rattle.std.specs.Prelude.{slice_index_or, ⊤}
use Rattle.aos_frame.specs.declared.config.Lane.{Lane}
use Rattle.std.proofs.Common.{inl, inr}
use Rattle.aos_frame.specs.declared.config.LinkConfig.{LinkConfig}
use Rattle.cfdp_header.specs.Files.{FileMap}
use Rattle.cfdp_station.specs.Station.{StationState}
use Rattle.cfdp_station.specs.Transmitting.{MovesMore, Times}
use Rattle.cfdp_station.specs.declared.pumping.Until.TheVariants.{Frame}
use Rattle.shown_sources.specs.Shown.{ReadsAs}
use Rattle.cfdp_port.specs.Calls.{WireCall}
use Rattle.cfdp_port.specs.Passing.{frames_came}
use Rattle.cfdp_port.specs.PeerTurn.{SendsNext, SendsNone, SendsSome, SendsSomeInPart, TakesOne}
use Rattle.cfdp_port.specs.Port.{PortState, port_state}
use Rattle.cfdp_port.specs.Turn.{AsksOn, TellsTime}
use Rattle.any_order.specs.declared.answers.SentFrame.{SentFrame}
use Rattle.any_order.specs.Kept.{EndKept, LifeKept, frames_in, last_at, with_frame, with_last}
use Rattle.any_order.specs.Refusing.{IsNearLast, IsOfNoPacket, MadeIn, number_in}

-- ---- what comes
-- Octets that come are a frame that the other station made, in any of its lives. Its number is near
-- the number of the frame of its lane that was taken last, and is the last one from now on.
pub record IsCopy (octets : List ℕ) (from old new : EndKept) : Type 0 where
  pub frame : SentFrame
  pub life : LifeKept
  pub made : MadeIn frame life from
  pub is : octets ≡ slice_index_or (frames_in frame.lane life) frame.place []
  pub near : IsNearLast (last_at frame.lane old) (number_in frame life)
  pub last : new ≡ with_last frame.lane (number_in frame life) old

-- They are such a frame, or no packet can come of them.
abbrev pub ComesOne : LinkConfig → List ℕ → (from old new : EndKept) → Type 0
ComesOne link octets from old new =
    IsCopy octets from old new ⊎ (IsOfNoPacket link octets × (new ≡ old))

-- so of all that come, one after another
abbrev pub Comes : LinkConfig → (came : List (List ℕ)) → (from old new : EndKept) → Type 0
Comes link [] from old new = new ≡ old
Comes link (octets ∷ came) from old new =
    (mid : EndKept) × ComesOne link octets from old mid × Comes link came from mid new

-- ---- what leaves by a call for the next frame
-- the frames of a life, once this one left in this lane, if one did
abbrev pub with_given : Option Lane → (frame : List ℕ) → LifeKept → LifeKept
with_given (Some lane) frame life = with_frame lane frame life
with_given None frame life = life

-- ---- what is read
-- These polls read only octets of a file that these files have there.
abbrev pub PollsRead : FileMap → (count : ℕ) → (old new : StationState)
    → Times (MovesMore Frame) count old new → Type 0
PollsRead files zero old new same = ⊤
PollsRead files (suc count) old new (mid, before, step) =
    PollsRead files count old mid before
    × ReadsAs step.1.0 files mid.entity.state new.entity.state

module _ {W : Type 0} (Steps : W → WireCall → W → Type 0) where
  -- So did the polls that brought these frames.
  abbrev pub FramesRead : FileMap → (count : ℕ) → (old new : PortState W)
      → Times (SendsNext Steps) count old new → Type 0
  FramesRead files zero old new same = ⊤
  FramesRead files (suc count) old new (mid, before, step) =
      FramesRead files count old mid before
      × PollsRead files step.pulls.polls.count mid.station step.pulls.polls.last
      step.pulls.polls.moved

  -- So did the polls that brought none, if there were some.
  abbrev pub LastRead : FileMap → (count : ℕ) → (last new : PortState W)
      → ((count < 64) × SendsNone Steps last new) ⊎ ((count ≡ 64) × (new ≡ last)) → Type 0
  LastRead files count last new (inl none) = PollsRead files none.1.pulls.polls.count last.station
      none.1.pulls.polls.last none.1.pulls.polls.moved
  LastRead files count last new (inr all) = ⊤

  -- So did all polls that sent what must leave in a turn.
  pub record TurnReads (files : FileMap) (old new : PortState W) (some : SendsSome Steps old new)
      : Type 0 where
    pub frames : FramesRead files some.count old some.last some.sent
    pub ends : LastRead files some.count some.last new some.ends

  -- So did all polls that sent some frames, until memory ran out.
  pub record PartReads (files : FileMap) (old new : PortState W)
      (some : SendsSomeInPart Steps old new) : Type 0 where
    pub frames : FramesRead files some.count old some.last some.sent
    pub ends : PollsRead files some.part.count some.last.station new.station some.part.moved

  -- So did all polls of a turn for which memory ran out, if it came so far.
  abbrev pub EndRead : FileMap → (now : ℕ) → (heard : PortState W) → (timed : W)
      → (new : PortState W) → (new ≡ record heard { wire = timed })
      ⊎ ((told : StationState) × TellsTime now heard.station told
      × SendsSomeInPart Steps (port_state told timed) new) → Type 0
  EndRead files now heard timed new (inl none) = ⊤
  EndRead files now heard timed new (inr (told, tells, some)) =
      PartReads files (port_state told timed) new some

  -- ---- turns
  -- the frames of a life, once these left the station
  abbrev pub with_sent : (count : ℕ) → (old new : PortState W)
      → Times (SendsNext Steps) count old new → LifeKept → LifeKept
  with_sent zero old new same life = life
  with_sent (suc count) old new (mid, before, step) life =
      with_frame step.sends.lane step.sends.frame (with_sent count old mid before life)

  -- A whole turn was taken. Of the datagrams that came each is a frame of the other station, or no
  -- packet can come of it; the frames that left are kept; and what was read of the files to send is
  -- what these files have.
  pub record TakesTurn (link : LinkConfig) (files : FileMap) (theirs old new : EndKept)
      : Type 0 where
    pub wire : W
    pub last : PortState W
    pub turn : TakesOne Steps (port_state old.station wire) last
    pub heard : EndKept
    pub came : Comes link (frames_came Steps turn.hears.count _ _ turn.hears.heard) theirs old heard
    pub reads : TurnReads files _ _ turn.sends
    pub kept : new ≡ record heard {
      station = last.station;
      latest = with_sent turn.sends.count _ _ turn.sends.sent heard.latest;
    }

  -- After what it heard, a station was given the time, and sent some frames; then it was polled at
  -- most, and the turn ended. The frames that left are kept, and what was read is as above.
  pub record SendsThen (files : FileMap) (mid : PortState W) (heard new : EndKept) : Type 0 where
    pub now : ℕ
    pub timed : W
    pub told : StationState
    pub last : PortState W
    pub tells : TellsTime now mid.station told
    pub some : SendsSomeInPart Steps (port_state told timed) last
    pub reads : PartReads files _ _ some
    pub kept : new ≡ record heard {
      station = last.station;
      latest = with_sent some.count _ _ some.sent heard.latest;
    }

  -- A turn ended early, for lack of memory, or since the station was cut off. Some of what came was
  -- taken, and that was all; or some frames left then.
  pub record EndsEarly (link : LinkConfig) (files : FileMap) (theirs old new : EndKept)
      : Type 0 where
    pub wire : W
    pub count : ℕ
    pub mid : PortState W
    pub hears : Times (AsksOn Steps) count (port_state old.station wire) mid
    pub heard : EndKept
    pub came : Comes link (frames_came Steps count _ _ hears) theirs old heard
    pub ends : (new ≡ record heard { station = mid.station }) ⊎ SendsThen files mid heard new
