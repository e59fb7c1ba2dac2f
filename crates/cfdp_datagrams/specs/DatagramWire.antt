-- A wire of datagrams over a transport, call by call.
use Rattle.std.specs.Prelude.{◌≡◌, ◌≢◌, ◌⊎◌, ◌≤◌, ⊤, ℕ, Bool, true, List, take, Option, Some, None, Result, Ok, Err}
use Rattle.std.specs.declared.io.ErrorKind.{ErrorKind}
use Rattle.cfdp_port.specs.Calls.{WireCall, Asked, Readied, Rested, Sent, Timed}
use Rattle.cfdp_port.specs.declared.wire.WireFault.{WireFault}
use Rattle.cfdp_datagrams.specs.declared.came.Came.{Came}
use Rattle.cfdp_datagrams.specs.declared.came.Came.TheVariants.{AskAgain, Beacon, Datagram, Discarded, Nothing}
use Rattle.cfdp_datagrams.specs.Transport.{TransportCall, Received}
use Rattle.cfdp_datagrams.specs.Paced.{PacedState, Paces, SendsBeacon, SendsFrame, SendsKept}

-- What a datagram of so many octets is: one for the station, or a beacon, which it may only be if
-- datagrams are frames, or one that is discarded.
abbrev pub IsCame : (len : ℕ) → (beacon : Option (List ℕ)) → Came → Type 0
IsCame len beacon (Datagram count) = count ≡ len
IsCame len beacon Beacon = beacon ≢ None
IsCame len beacon Discarded = ⊤
IsCame len beacon Nothing = ⊥
IsCame len beacon AskAgain = ⊥

-- the octets of a datagram for the station are in the buffer
abbrev pub IsWithin : Came → (room : ℕ) → Type 0
IsWithin (Datagram len) room = len ≤ room
IsWithin Nothing room = ⊤
IsWithin AskAgain room = ⊤
IsWithin Beacon room = ⊤
IsWithin Discarded room = ⊤

module _ {T : Type 0} (Steps : T → TransportCall → T → Type 0) where
  -- The transport was asked for a datagram, once, and answered this. Nothing was sent.
  pub record Receives (came : Result (List ℕ) ErrorKind) (old new : PacedState T) : Type 0 where
    pub asked : Steps old.transport (Received came) new.transport
    pub rest : new ≡ record old { transport = new.transport }

  -- The transport was asked, and had no datagram.
  abbrev pub ReceivesNone : (old new : PacedState T) → Type 0
  ReceivesNone old new = (why : ErrorKind) × Receives (Err why) old new

  -- The transport had a datagram, of which the station gets nothing.
  abbrev pub PassesOver : (old new : PacedState T) → Type 0
  PassesOver old new = (datagram : List ℕ) × Receives (Ok datagram) old new

  -- Before a wait at most a beacon was sent, and at most the datagram that waited.
  pub record Waits (old new : PacedState T) : Type 0 where
    pub told : PacedState T
    pub beacon : SendsBeacon Steps old told
    pub kept : SendsKept Steps told new

  -- The transport had no datagram, or wasn't asked. At most a beacon was sent.
  pub record EndsTurn (old new : PacedState T) : Type 0 where
    pub asked : PacedState T
    pub asks : (asked ≡ old) ⊎ ReceivesNone old asked
    pub beacon : SendsBeacon Steps asked new

  -- The transport had no datagram, or wasn't asked, and the wire may have waited.
  pub record GoesOn (old new : PacedState T) : Type 0 where
    pub asked : PacedState T
    pub asks : (asked ≡ old) ⊎ ReceivesNone old asked
    pub waits : (new ≡ asked) ⊎ Waits asked new

  -- What a look for a datagram found. A datagram for the station is what the transport had, octet
  -- for octet. Only if datagrams are frames one may be a beacon.
  abbrev pub Looks : Came → (buffer : List ℕ) → (old new : PacedState T) → Type 0
  Looks (Datagram len) buffer old new = Receives (Ok (take len buffer)) old new
  Looks Nothing buffer old new = EndsTurn old new
  Looks AskAgain buffer old new = GoesOn old new
  Looks Beacon buffer old new = (old.beacon ≢ None) × PassesOver old new
  Looks Discarded buffer old new = PassesOver old new

  -- What the transport has no datagram for: the turn ends, or the wire must be asked again.
  abbrev pub FindsNone : Came → (old new : PacedState T) → Type 0
  FindsNone Nothing old new = SendsBeacon Steps old new
  FindsNone AskAgain old new = (new ≡ old) ⊎ Waits old new
  FindsNone (Datagram len) old new = ⊥
  FindsNone Beacon old new = ⊥
  FindsNone Discarded old new = ⊥

  -- What came is what the transport had, octet for octet, and nothing was sent then; or nothing
  -- came, and no datagram of the transport is lost; or it must be asked again, and at most one is.
  abbrev pub Brings : Result (Option (List ℕ)) WireFault → (old new : PacedState T) → Type 0
  Brings (Ok (Some datagram)) old new = Receives (Ok datagram) old new
  Brings (Ok None) old new = EndsTurn old new
  Brings (Err fault) old new = GoesOn old new ⊎ PassesOver old new

  -- A frame may leave only if none waits, and if the pacer lets it. At most the datagram that waits
  -- was sent.
  pub record SaysReady (answer : Bool) (old new : PacedState T) : Type 0 where
    pub sent : PacedState T
    pub kept : SendsKept Steps old sent
    pub none : answer ≡ true → sent.kept.datagram ≡ None
    pub paces : Paces answer sent.pacer new.pacer
    pub rest : new ≡ record sent { pacer = new.pacer }

  -- What a call of the wire does.
  abbrev pub Carries : (old : PacedState T) → WireCall → (new : PacedState T) → Type 0
  Carries old (Sent frame answer) new = SendsFrame Steps frame answer old new
  Carries old (Asked came) new = Brings came old new
  Carries old (Readied answer) new = SaysReady answer old new
  Carries old (Timed now) new = new ≡ old
  Carries old (Rested is_open answer) new = new ≡ old
