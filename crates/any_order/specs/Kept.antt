-- What a program keeps of two stations over such a link, and which histories of both fit to that.
use Rattle.std.specs.Prelude.{◌≡◌, ℕ, List, [], ◌∷◌, ◌++◌, Option, Some, None, map}
use Rattle.aos_frame.specs.declared.config.Lane.{Lane}
use Rattle.aos_frame.specs.declared.config.Lane.TheVariants.{Directives, Data}
use Rattle.aos_frame.specs.declared.config.LinkConfig.{LinkConfig}
use Rattle.link_stack.specs.Downward.{both_counted_from, first_down}
use Rattle.link_stack.specs.EndToEnd.{AreNear}
use Rattle.link_stack.specs.Lives.{AreComingOf, Life, made_in, numbers_of}
use Rattle.link_stack.specs.Upward.{first_up}
use Rattle.cfdp_header.specs.Files.{FileMap}
use Rattle.cfdp_directives.specs.declared.user.indication.Indication.{Indication}
use Rattle.cfdp_directives.specs.User.Put as user
use Rattle.cfdp_entity.specs.Entity.{first_entity}
use Rattle.cfdp_station.specs.Station.{StationState}
use Rattle.cfdp_station.specs.Transmitting.{GivesFrame}
use Rattle.cfdp_station.specs.declared.config.StationConfig.{StationConfig}
use Rattle.any_order.specs.Calls.{Call, DoesCall, End, Gives, lives}

-- ---- the frames of a life
-- The number of its first frame, and the frames that were made of each lane, in order.
pub record LifeKept : Type 0 where
  pub first : ℕ
  pub directives : List (List ℕ)
  pub file_data : List (List ℕ)

abbrev pub frames_in : Lane → LifeKept → List (List ℕ)
frames_in Directives l = l.directives
frames_in Data l = l.file_data

abbrev pub with_frame : Lane → List ℕ → LifeKept → LifeKept
with_frame Directives frame l = record l { directives = l.directives ++ frame ∷ [] }
with_frame Data frame l = record l { file_data = l.file_data ++ frame ∷ [] }

-- what is kept of a sending end
abbrev pub kept_of : Life → LifeKept
kept_of life = record {
  first = life.first;
  directives = made_in Directives life;
  file_data = made_in Data life;
}

-- ---- one station
-- The station; the frames of its lives before, and those of this one; what it indicated to its user
-- in the lives before; and of each lane the number of the frame that it took last in this life.
pub record EndKept : Type 0 where
  pub station : StationState
  pub before : List LifeKept
  pub latest : LifeKept
  pub told_before : List Indication
  pub last_directives : Option ℕ
  pub last_data : Option ℕ

-- the frames of all its lives
abbrev pub all_kept : EndKept → List LifeKept
all_kept k = k.before ++ k.latest ∷ []

abbrev pub last_at : Lane → EndKept → Option ℕ
last_at Directives k = k.last_directives
last_at Data k = k.last_data

abbrev pub with_last : Lane → ℕ → EndKept → EndKept
with_last Directives number k = record k { last_directives = Some number }
with_last Data number k = record k { last_data = Some number }

-- its sending end
abbrev pub present : End → Life
present e = record { first = e.first; calls = e.sent }

-- the last of these numbers, which came after `before`
abbrev pub last_of : (before : Option ℕ) → List ℕ → Option ℕ
last_of before [] = before
last_of before (n ∷ ns) = last_of (Some n) ns

-- What is kept is of a station at which this was done.
pub record IsOf (k : EndKept) (e : End) : Type 0 where
  pub station : e.station ≡ k.station
  pub before : map kept_of e.lives_before ≡ k.before
  pub latest : kept_of (present e) ≡ k.latest
  pub told : e.told_before ≡ k.told_before

-- All that came to it in this life were frames of the other station, or octets from which no packet
-- can come; each frame was near the one of its lane before it, and the last number is kept.
pub record HasTaken (link : LinkConfig) (k : EndKept) (mine theirs : End) : Type 0 where
  pub coming : AreComingOf link (lives theirs) mine.came
  pub near : (lane : Lane) → AreNear None (numbers_of lane (lives theirs) mine.came)
  pub last : (lane : Lane) → last_of None (numbers_of lane (lives theirs) mine.came)
      ≡ last_at lane k

-- These calls were made at a station, in order.
abbrev pub DoesCalls : List Call → (config : StationConfig) → (old theirs new : End) →
    (puts puts_then : List user.Put) → Type 0
DoesCalls [] c old theirs new puts puts_then = (new ≡ old) × (puts_then ≡ puts)
DoesCalls (call ∷ calls) c old theirs new puts puts_then =
    (mid : End) × (puts_mid : List user.Put) × DoesCall call c old theirs mid puts puts_mid
    × DoesCalls calls c mid theirs new puts_mid puts_then

-- Whatever was done before at both stations, if this was kept of it, then these calls were made at
-- one of them since, and that is kept now.
pub record Makes (calls : List Call) (c : StationConfig) (old theirs new : EndKept)
    (puts puts_then : List user.Put) : Type 0 where
  pub follow : (mine other : End) → IsOf old mine → IsOf theirs other →
      HasTaken c.receives old mine other →
      (after : End) × DoesCalls calls c mine other after puts puts_then × IsOf new after
      × HasTaken c.receives new after other

-- ---- frames that are taken off
-- a frame that was made of a lane
pub record MadeFrame : Type 0 where
  pub lane : Lane
  pub octets : List ℕ

abbrev pub gives : List MadeFrame → List Call
gives made = map (λ m. Gives m.lane m.octets) made

-- A station gave these frames, in order, and each was kept.
abbrev pub GivesAll : List MadeFrame → (old new : StationState) → (kept kept_then : LifeKept)
    → Type 0
GivesAll [] old new kept kept_then = (new ≡ old) × (kept_then ≡ kept)
GivesAll (m ∷ made) old new kept kept_then =
    (mid : StationState) × GivesFrame m.lane m.octets old mid
    × GivesAll made mid new (with_frame m.lane m.octets kept) kept_then

-- ---- a new one
-- Nothing was done at a station yet: it counts its frames from 0, and has these files to send and
-- in its inbox.
pub record IsNewKept (c : StationConfig) (sources files : FileMap) (k : EndKept) : Type 0 where
  pub entity : k.station.entity.state ≡ first_entity sources files c.entity
  pub down : k.station.down ≡ both_counted_from 0 (first_down c.sends c.capacity)
  pub up : k.station.up ≡ first_up c.receives
  pub before : k.before ≡ []
  pub latest : k.latest ≡ record { first = 0; directives = []; file_data = [] }
  pub told_before : k.told_before ≡ []
  pub last_directives : k.last_directives ≡ None
  pub last_data : k.last_data ≡ None
