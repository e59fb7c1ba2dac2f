-- What passes a secured wire in the steps of a port's turn: what was sealed, and what arrived over
-- the wire below.
use Rattle.std.specs.Prelude.{ℕ, zero, suc, true, false, List, [], ◌∷◌, ◌++◌, Some, None, Result, Ok, Err}
use mathlib.Core.Logic.{inl, inr}
use Rattle.aos_frame.specs.declared.config.Lane.{Lane}
use Rattle.cfdp_station.specs.Transmitting.{Times}
use Rattle.frame_security.specs.Opening.{OpenerState}
use Rattle.cfdp_port.specs.Calls.{WireCall, Sent}
use Rattle.cfdp_port.specs.Port.{PortState}
use Rattle.cfdp_port.specs.Turn.{AsksOn, SendsFrame}
use Rattle.cfdp_port.specs.declared.wire.WireFault.{WireFault}
use Rattle.secured_wire.specs.Direction.{Arrival, SealedIn}
use Rattle.secured_wire.specs.Keeping.{KeeperCall}
use Rattle.secured_wire.specs.Secured.{Came, Opens, Secures, SecuredState}

-- the octets that the wire below answered, and whether an accepted frame in them is handed on
abbrev pub arrival_of : (Calls : KeeperCall → Type 0) → (room : ℕ) → (behind came : Came)
    → (old new : OpenerState) → Opens Calls room behind came old new → List Arrival
arrival_of Calls room (Ok (Some octets)) came old new (is, inl opened) =
    record { octets = octets; handed_on = true } ∷ []
arrival_of Calls room (Ok (Some octets)) came old new (is, inr lost) =
    record { octets = octets; handed_on = false } ∷ []
arrival_of Calls room (Ok None) came old new is = []
arrival_of Calls room (Err fault) came old new is = []

module _ {W : Type 0} (Steps : W → WireCall → W → Type 0) (Calls : KeeperCall → Type 0) where
  -- how a frame of this lane was sealed, unless it was lost before
  abbrev pub sealed_by_call : (lane : Lane) → (frame : List ℕ)
      → (answer : Result (Unit {0}) WireFault) → (old new : SecuredState W)
      → Secures Steps Calls old (Sent frame answer) new → List SealedIn
  sealed_by_call lane frame answer old new (inl sends) =
      record {
        lane = lane;
        frame = record {
          spi = old.sealer.spi;
          key = old.sealer.key;
          number = old.sealer.next;
          bare = frame;
        };
      } ∷ []
  sealed_by_call lane frame answer old new (inr lost) = []

  -- what was sealed as so many frames left, in order
  abbrev pub sealed_in : (count : ℕ) → (old new : PortState (SecuredState W))
      → Times (SendsFrame (Secures Steps Calls)) count old new → List SealedIn
  sealed_in zero old new same = []
  sealed_in (suc count) old new (mid, before, step) =
      sealed_in count old mid before
      ++ sealed_by_call step.lane step.frame step.answer mid.wire new.wire step.sent

  -- what arrived in so many questions, in order
  abbrev pub arrivals : (count : ℕ) → (old new : PortState (SecuredState W))
      → Times (AsksOn (Secures Steps Calls)) count old new → List Arrival
  arrivals zero old new same = []
  arrivals (suc count) old new (mid, before, step) =
      arrivals count old mid before
      ++ arrival_of Calls step.2.asked.0 step.2.asked.1.behind step.0 mid.wire.opener
      new.wire.opener step.2.asked.1.opens
