-- What leaves over a transport, datagram by datagram.
use Rattle.std.specs.Prelude.{◌≡◌, ◌≢◌, ◌⊎◌, ◌<◌, ◌≤◌, ◌+◌, ◌^◌, max, ⊤, ℕ, Bool, true, false, List, length, take, Option, Some, None, Result, Ok, Err}
use Rattle.std.specs.declared.io.ErrorKind.{ErrorKind}
use Rattle.std.specs.declared.io.ErrorKind.TheVariants.{WouldBlock}
use Rattle.cfdp_station.specs.Transmitting.{Times}
use Rattle.cfdp_port.specs.declared.wire.WireFault.{WireFault}
use Rattle.cfdp_datagrams.specs.declared.fate.Fate.{Fate}
use Rattle.cfdp_datagrams.specs.declared.fate.Fate.TheVariants.{Left, MustWait, Lost}
use Rattle.cfdp_datagrams.specs.declared.pacer.Pacer.{Pacer}
use Rattle.cfdp_datagrams.specs.Pacer.{Leaves}
use Rattle.cfdp_datagrams.specs.Transport.{TransportCall, Sent}

-- The datagram that waits for room, if one does, and how many octets it may have.
pub record KeptState : Type 0 where
  pub datagram : Option (List ℕ)
  pub room : ℕ

-- the datagram of so many octets at the front, if one waits
abbrev pub kept_in : Option ℕ → (octets : List ℕ) → Option (List ℕ)
kept_in None octets = None
kept_in (Some len) octets = Some (take len octets)

-- The transport; the datagram that waits for room; the beacon, if datagrams are frames; and when
-- the next frame may leave.
pub record PacedState (T : Type 0) : Type 0 where
  pub transport : T
  pub kept : KeptState
  pub beacon : Option (List ℕ)
  pub pacer : Pacer

-- What comes of a datagram by the transport's answer: only one that it sent has left, and none is
-- lost because there was no room for it.
abbrev pub IsFate : Result (Unit {0}) ErrorKind → Fate → Type 0
IsFate (Ok done) Left = ⊤
IsFate (Ok done) MustWait = ⊥
IsFate (Ok done) Lost = ⊥
IsFate (Err why) Left = ⊥
IsFate (Err why) MustWait = ⊤
IsFate (Err why) Lost = why ≢ WouldBlock

-- A frame that left leaves what waits as it is; one for which there is no room waits now, in place
-- of any other; and one that is lost is too long, or was refused for another cause.
abbrev pub EndsSend : (frame : List ℕ) → Result (Unit {0}) ErrorKind
    → Result (Unit {0}) WireFault → (old new : KeptState) → Type 0
EndsSend frame (Ok done) (Ok tt) old new = new ≡ old
EndsSend frame (Ok done) (Err fault) old new = ⊥
EndsSend frame (Err why) (Ok tt) old new = new ≡ record old { datagram = Some frame }
EndsSend frame (Err why) (Err fault) old new =
    (new ≡ old) × ((why ≢ WouldBlock) ⊎ (old.room < length frame))

-- The datagram that waits has left; or it waits on, or it is lost, though not because there was no
-- room for it.
abbrev pub EndsKept : Result (Unit {0}) ErrorKind → (old new : KeptState) → Type 0
EndsKept (Ok done) old new = new ≡ record old { datagram = None }
EndsKept (Err why) old new =
    (new ≡ old) ⊎ ((why ≢ WouldBlock) × (new ≡ record old { datagram = None }))

-- A frame may leave at some time, and it is noted that it does; or none may. (Times have 64 bits.)
abbrev pub Paces : (may : Bool) → (old new : Pacer) → Type 0
Paces true old new = (time : ℕ) × (old.due ≤ time + old.slack)
    × (max old.due time + old.frame_time < 2 ^ 64 → Leaves time old new)
Paces false old new = new ≡ old

module _ {T : Type 0} (Steps : T → TransportCall → T → Type 0) where
  -- The transport was asked to send a datagram, and didn't.
  abbrev pub Refuses : (datagram : List ℕ) → (old new : T) → Type 0
  Refuses datagram old new = (why : ErrorKind) × Steps old (Sent datagram (Err why)) new

  -- The transport was asked to send a datagram until it gave this answer, and didn't send it
  -- before: it has left once if that is `Ok`, and otherwise not at all.
  pub record Tries (datagram : List ℕ) (answer : Result (Unit {0}) ErrorKind) (old new : T)
      : Type 0 where
    pub refusals : ℕ
    pub last : T
    pub refused : Times (Refuses datagram) refusals old last
    pub answered : Steps last (Sent datagram answer) new

  -- A frame was tried, and nothing else was sent.
  pub record SendsFrame (frame : List ℕ) (answer : Result (Unit {0}) WireFault)
      (old new : PacedState T) : Type 0 where
    pub tried : Result (Unit {0}) ErrorKind
    pub tries : Tries frame tried old.transport new.transport
    pub ends : EndsSend frame tried answer old.kept new.kept
    pub rest : new ≡ record old { transport = new.transport; kept = new.kept }

  -- The datagram that waits was tried, and nothing else was sent.
  pub record TriesKept (old new : PacedState T) : Type 0 where
    pub datagram : List ℕ
    pub waited : old.kept.datagram ≡ Some datagram
    pub tried : Result (Unit {0}) ErrorKind
    pub tries : Tries datagram tried old.transport new.transport
    pub ends : EndsKept tried old.kept new.kept
    pub rest : new ≡ record old { transport = new.transport; kept = new.kept }

  -- At most the datagram that waits was sent.
  abbrev pub SendsKept : (old new : PacedState T) → Type 0
  SendsKept old new = (new ≡ old) ⊎ TriesKept old new

  -- The beacon was tried, and nothing else was sent. It never waits.
  pub record TriesBeacon (old new : PacedState T) : Type 0 where
    pub beacon : List ℕ
    pub there : old.beacon ≡ Some beacon
    pub tried : Result (Unit {0}) ErrorKind
    pub tries : Tries beacon tried old.transport new.transport
    pub rest : new ≡ record old { transport = new.transport }

  -- At most the beacon was sent.
  abbrev pub SendsBeacon : (old new : PacedState T) → Type 0
  SendsBeacon old new = (new ≡ old) ⊎ TriesBeacon old new
