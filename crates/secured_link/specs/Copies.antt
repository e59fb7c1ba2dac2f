-- What was sealed, as the frames that a station made in all its lives; and what another station
-- accepts of it.
use Rattle.std.specs.Prelude.{◌≡◌, ◌⊎◌, ℕ, ◌+◌, ◌<◌, ◌≤◌, ◌^◌, Bool, true, false, List, [], ◌∷◌, ◌++◌, Option, Some, None, Contains, IfSome, length, slice_index_or}
use Rattle.aos_frame.specs.Counts.{frame_counts}
use Rattle.aos_frame.specs.declared.config.Lane.{Lane}
use Rattle.any_order.specs.Kept.{EndKept, LifeKept, frames_in, last_at, with_last}
use Rattle.aos_frame.specs.LinkFields.{bare_in}
use Rattle.frame_security.specs.declared.opening.FrameRefusal.{FrameRefusal}
use Rattle.frame_security.specs.Frames.{secured}
use Rattle.frame_security.specs.Opening.{OpenerState, after, refusal}
use Rattle.secured_wire.specs.Direction.{Arrival, SealedIn}

-- ---- what is sealed
-- A frame that was sealed, and its number: a station counts the frames of each lane over all its
-- lives.
pub record Numbered : Type 0 where
  pub number : ℕ
  pub sealed : SealedIn

-- these frames, numbered from this number on
abbrev pub numbered_from : ℕ → List SealedIn → List Numbered
numbered_from number [] = []
numbered_from number (x ∷ more) =
    record { number = number; sealed = x } ∷ numbered_from (number + 1) more

-- the number of the next frame of a lane in a life
abbrev pub next_in : Lane → LifeKept → ℕ
next_in lane life = life.first + length (frames_in lane life)

-- The frame was made in one of these lives, and has this number.
pub record IsMade (x : Numbered) (lives : List LifeKept) : Type 0 where
  pub life : LifeKept
  pub among : Contains lives life
  pub place : ℕ
  pub within : place < length (frames_in x.sealed.lane life)
  pub is : x.sealed.frame.bare ≡ slice_index_or (frames_in x.sealed.lane life) place []
  pub counted : x.number ≡ life.first + place

-- All that was sealed, with sequence numbers less than the next one, are frames that a station made
-- in these lives before or in the latest one. In each lane a frame that was sealed later has a
-- greater number, which is less than the number of the next frame of its lane.
pub record AreKeptIn (all : List Numbered) (next : ℕ) (before : List LifeKept) (latest : LifeKept)
    : Type 0 where
  pub each : (x : Numbered) → Contains all x → IsMade x (before ++ latest ∷ [])
  pub fits : (x : Numbered) → Contains all x
      → (x.sealed.frame.number < 2 ^ 64) × (6 ≤ length x.sealed.frame.bare)
  pub rise : (x y : Numbered) → Contains all x → Contains all y → x.sealed.lane ≡ y.sealed.lane
      → x.sealed.frame.number < y.sealed.frame.number → x.number < y.number
  pub sequence : (x : Numbered) → Contains all x → x.sealed.frame.number < next
  pub numbers : (x : Numbered) → Contains all x → x.number < next_in x.sealed.lane latest

-- so of what is kept of a station
abbrev pub AreKept : (all : List Numbered) → (next : ℕ) → EndKept → Type 0
AreKept all next k = AreKeptIn all next k.before k.latest

-- ---- what is accepted
-- The frame in octets that arrived was accepted and handed on. **None was forged**: the octets were
-- sealed by the other station, whatever the fields of the link are. **Few were lost in a row**: the
-- number of the frame is at most 2^28 greater than the number of the frame of its lane that was
-- handed on before it in this life. It is the last number of its lane from now on.
pub record IsAccepted (all : List Numbered) (o : OpenerState) (octets : List ℕ) (old new : EndKept)
    : Type 0 where
  pub one : Numbered
  pub sealed : Contains all one
  pub unforged : let x = one.sealed.frame in
      bare_in o.security.fields octets ≡ secured o.security x.key x.spi x.number x.bare
  pub few_lost : IfSome (last_at one.sealed.lane old) (λ before. one.number ≤ before + frame_counts)
  pub last : new ≡ with_last one.sealed.lane one.number old

-- Refused octets change no last number, and neither does a frame that isn't handed on.
abbrev pub AcceptsBy : (all : List Numbered) → (o : OpenerState) → (octets : List ℕ)
    → Option FrameRefusal → (handed_on : Bool) → (old new : EndKept) → Type 0
AcceptsBy all o octets None true old new = IsAccepted all o octets old new
AcceptsBy all o octets None false old new = new ≡ old
AcceptsBy all o octets (Some cause) handed_on old new = new ≡ old

-- so of all that arrive, one after another
abbrev pub Accepts : (all : List Numbered) → OpenerState → (came : List Arrival)
    → (old new : EndKept) → Type 0
Accepts all o [] old new = new ≡ old
Accepts all o (a ∷ came) old new =
    (mid : EndKept) × AcceptsBy all o a.octets (refusal o a.octets) a.handed_on old mid
    × Accepts all (after o a.octets) came mid new

-- The last number of a lane is the number of a frame that was sealed, under this sequence number or
-- one before it.
abbrev pub TookLast : (all : List Numbered) → (last : ℕ) → EndKept → Type 0
TookLast all last k = (lane : Lane) (before : ℕ) → last_at lane k ≡ Some before
    → (x : Numbered) × Contains all x × (x.sealed.lane ≡ lane) × (x.number ≡ before)
    × (x.sealed.frame.number ≤ last)

-- The frames of each lane that may still be accepted, since they were sealed after this sequence
-- number, are near each other, and near the frame that was handed on last: the numbers of no two of
-- them differ by more than there are frame counts.
abbrev pub AreNear : (all : List Numbered) → (last : ℕ) → EndKept → Type 0
AreNear all last k = (x y : Numbered) → Contains all x → Contains all y
    → x.sealed.lane ≡ y.sealed.lane → last < y.sealed.frame.number
    → (last < x.sealed.frame.number) ⊎ (last_at x.sealed.lane k ≡ Some x.number)
    → y.number ≤ x.number + frame_counts
