-- What is handed on over a secured wire, over all lives of its receiving end. A life begins when an
-- opener is made, and when its keys change.
use Rattle.std.specs.Prelude.{ℕ, ◌+◌, ◌<◌, ◌≤◌, ◌^◌, ⊤, Bool, true, false, Option, Some, None, List, [], ◌∷◌, ◌++◌, length, Contains}
use Rattle.aos_frame.specs.LinkFields.{bare_in}
use Rattle.frame_security.specs.declared.opening.FrameRefusal.{FrameRefusal}
use Rattle.frame_security.specs.Frames.{number_in}
use Rattle.frame_security.specs.Lives.{IsAuthenticAt, Sealed, WasSealed}
use Rattle.frame_security.specs.Opening.{OpenerState, after, refusal}
use Rattle.secured_wire.specs.Direction.{Arrival, frames_of_all}

-- What was sealed, in order: each has a greater sequence number than those before it, the first one
-- this number or a greater one; and each can be sealed.
abbrev pub NumbersRise : (from : ℕ) → List Sealed → Type 0
NumbersRise from [] = ⊤
NumbersRise from (x ∷ more) =
    (from ≤ x.number) × (x.number < 2 ^ 64) × (6 ≤ length x.bare) × NumbersRise (x.number + 1) more

-- A life of a receiving end: its opener as it begins, and what arrives in it.
pub record Receiving : Type 0 where
  pub opener : OpenerState
  pub came : List Arrival

-- the sequence number of the frame that was handed on last, if `before` is that before these octets
abbrev pub noted_by : (handed_on : Bool) → Option FrameRefusal → (number before : ℕ) → ℕ
noted_by true None number before = number
noted_by true (Some cause) number before = before
noted_by false fault number before = before

-- and after all these
abbrev pub last_noted : (before : ℕ) → OpenerState → List Arrival → ℕ
last_noted before o [] = before
last_noted before o (a ∷ came) =
    let number = number_in (bare_in o.security.fields a.octets) in
    last_noted (noted_by a.handed_on (refusal o a.octets) number before) (after o a.octets) came

-- **What was noted outlasts a restart**: each life begins with a last number that is at least the
-- number of the frame that was handed on last. Nothing is asked of a frame that was accepted and
-- not handed on, since its number may not have been noted.
abbrev pub NotesOutlast : (before : ℕ) → List Receiving → Type 0
NotesOutlast before [] = ⊤
NotesOutlast before (life ∷ lives) =
    (before ≤ life.opener.last) × (life.opener.security.mac_len ≤ 32)
    × NotesOutlast (last_noted before life.opener life.came) lives

-- all bare frames that are handed on, in order
abbrev pub all_handed_on : List Receiving → List (List ℕ)
all_handed_on [] = []
all_handed_on (life ∷ lives) = frames_of_all life.opener life.came ++ all_handed_on lives

-- **None was forged**: all octets that arrived with a right MAC were sealed.
abbrev pub NoneForgedOver : (all : List Sealed) → List Receiving → Type 0
NoneForgedOver all [] = ⊤
NoneForgedOver all (life ∷ lives) =
    ((a : Arrival) → Contains life.came a → IsAuthenticAt life.opener a.octets
    → WasSealed life.opener.security all a.octets)
    × NoneForgedOver all lives
