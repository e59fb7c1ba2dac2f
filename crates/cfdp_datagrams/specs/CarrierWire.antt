-- A wire of frames over a wire of datagrams, call by call.
use Rattle.std.specs.Prelude.{◌≡◌, ◌⊎◌, ℕ, Bool, true, false, List, ◌∷◌, Option, Some, None, Result, Ok, Err, length}
use Rattle.cfdp_station.specs.Transmitting.{Times}
use Rattle.cfdp_port.specs.Calls.{WireCall, Asked, Readied, Rested, Sent, Timed}
use Rattle.cfdp_port.specs.declared.wire.WireFault.{WireFault}
use Rattle.cfdp_station.specs.declared.config.StationConfig.{StationConfig}
use Rattle.cfdp_datagrams.specs.declared.carrier.datagram.PduCarrier.{PduCarrier}
use Rattle.cfdp_datagrams.specs.declared.carrier.datagram.PduCarrier.TheVariants as pdu_carriers
use Rattle.cfdp_datagrams.specs.declared.carrier.Carrier.{Carrier}
use Rattle.cfdp_datagrams.specs.declared.carrier.Carrier.TheVariants.{Frames, Packets, Pdus}
use Rattle.cfdp_datagrams.specs.Carrier.{ConversionState, GivesFrame, IsFirst, Leaves, Passes, TakesFrame, TakesOrDrops}

-- The wire of datagrams; the way from frames to these and back, if they aren't the frames; and
-- whether that wire was ready, and nothing was sent since.
pub record CarrierState (W : Type 0) : Type 0 where
  pub wire : W
  pub conversion : Option ConversionState
  pub has_leave : Bool

-- how PDUs are carried, if a datagram has one
abbrev pub pdu_carrier : Carrier → Option PduCarrier
pdu_carrier Frames = None
pdu_carrier (Packets form) = Some (pdu_carriers.Packets form)
pdu_carrier Pdus = Some pdu_carriers.Pdus

-- Nothing left a station with this configuration, and nothing came.
abbrev pub IsFirstOf : Option PduCarrier → StationConfig → Option ConversionState → Type 0
IsFirstOf None config None = Unit {0}
IsFirstOf (Some kind) config (Some c) = IsFirst kind config c
IsFirstOf _ config _ = ⊥

-- how many datagrams wait
abbrev pub waiting_of : Option ConversionState → ℕ
waiting_of None = 0
waiting_of (Some c) = length c.queue

module _ {W : Type 0} (Steps : W → WireCall → W → Type 0) where
  -- The wire was asked whether a datagram may leave.
  pub record AsksLeave (old new : CarrierState W) : Type 0 where
    pub asked : Steps old.wire (Readied new.has_leave) new.wire
    pub conversion : new.conversion ≡ old.conversion

  -- A datagram may leave, or may not: the wire was asked, or it need not be.
  pub record MayLeave (answer : Bool) (old new : CarrierState W) : Type 0 where
    pub asks : (new ≡ old) ⊎ AsksLeave old new
    pub leave : answer ≡ true → new.has_leave ≡ true

  -- The first datagram that waited left, since the wire was ready, which must be asked again now.
  pub record LeavesNext (old new : CarrierState W) : Type 0 where
    pub before : ConversionState
    pub after : ConversionState
    pub pdu : List ℕ
    pub rest : List (List ℕ)
    pub answer : Result (Unit {0}) WireFault
    pub ready : old.has_leave ≡ true
    pub was : old.conversion ≡ Some before
    pub queue : before.queue ≡ pdu ∷ rest
    pub leaves : Leaves Steps pdu rest answer before old.wire after new.wire
    pub now : new.conversion ≡ Some after
    pub leave : new.has_leave ≡ false

  -- what is done to send what waits
  abbrev pub SendsStep : (old new : CarrierState W) → Type 0
  SendsStep old new = AsksLeave old new ⊎ LeavesNext old new

  -- Datagrams left in their order, each after the wire was ready; some may wait.
  pub record SendsOut (old new : CarrierState W) : Type 0 where
    pub count : ℕ
    pub steps : Times SendsStep count old new

  -- ---- the calls of a wire of frames
  -- A frame of the station was taken, and datagrams left: first those that waited, and then the
  -- PDUs that it completes.
  pub record SendsFrame (frame : List ℕ) (c : ConversionState) (old new : CarrierState W)
      : Type 0 where
    pub taken : ConversionState
    pub takes : TakesFrame frame c taken
    pub sends : SendsOut (record old { conversion = Some taken }) new

  -- A frame comes to the station: one that waited, for which the wire isn't asked; or one after a
  -- datagram that came before that.
  pub record BringsFrame (frame : List ℕ) (c : ConversionState) (old new : CarrierState W)
      : Type 0 where
    pub after : ConversionState
    pub comes : (GivesFrame frame c after × (new.wire ≡ old.wire)) ⊎ ((datagram : List ℕ)
        × Steps old.wire (Asked (Ok (Some datagram))) new.wire × Passes datagram frame c after)
    pub now : new.conversion ≡ Some after

  -- A datagram came after which no frame comes to the station.
  pub record BringsDatagram (c : ConversionState) (old new : CarrierState W) : Type 0 where
    pub datagram : List ℕ
    pub after : ConversionState
    pub came : Steps old.wire (Asked (Ok (Some datagram))) new.wire
    pub takes : TakesOrDrops datagram c after
    pub now : new.conversion ≡ Some after

  -- The wire was asked what came, and this is its answer; nothing else changed.
  abbrev pub AsksWire : Result (Option (List ℕ)) WireFault → (old new : CarrierState W) → Type 0
  AsksWire came old new = Steps old.wire (Asked came) new.wire
      × (new.conversion ≡ old.conversion)

  -- A frame comes; or nothing, if the wire says so; or a fault, which is the wire's, or stands
  -- for a datagram after which no frame comes. Nothing is sent, and no PDU leaves the queue.
  abbrev pub Brings : Result (Option (List ℕ)) WireFault → (c : ConversionState)
      → (old new : CarrierState W) → Type 0
  Brings (Ok (Some frame)) c old new = BringsFrame frame c old new
  Brings (Ok None) c old new = AsksWire (Ok None) old new
  Brings (Err fault) c old new = AsksWire (Err fault) old new ⊎ BringsDatagram c old new

  -- A frame may leave only if no datagram waits, and the wire was ready for one.
  pub record SaysReady (answer : Bool) (old new : CarrierState W) : Type 0 where
    pub sends : SendsOut old new
    pub rests : answer ≡ true → waiting_of new.conversion ≡ 0
    pub leave : answer ≡ true → new.has_leave ≡ true

  -- Datagrams that waited left before the time was asked for.
  pub record TellsTime (now : ℕ) (old new : CarrierState W) : Type 0 where
    pub sent : CarrierState W
    pub sends : SendsOut (record old { has_leave = false }) sent
    pub asked : Steps sent.wire (Timed now) new.wire
    pub conversion : new.conversion ≡ sent.conversion

  abbrev pub Converts : (c : ConversionState) → WireCall → (old new : CarrierState W) → Type 0
  Converts c (Sent frame answer) old new = SendsFrame frame c old new
  Converts c (Asked came) old new = Brings came c old new × (new.has_leave ≡ old.has_leave)
  Converts c (Readied answer) old new = SaysReady answer old new
  Converts c (Timed now) old new = TellsTime now old new
  Converts c (Rested is_open answer) old new =
      Steps old.wire (Rested is_open answer) new.wire × (new.conversion ≡ old.conversion)
      × (new.has_leave ≡ old.has_leave)

  -- What a call does: if the datagrams are the frames, the wire of these does it.
  abbrev pub CarriesAs : Option ConversionState → WireCall → (old new : CarrierState W) → Type 0
  CarriesAs None call old new = Steps old.wire call new.wire × (new.conversion ≡ None)
      × (new.has_leave ≡ old.has_leave)
  CarriesAs (Some c) call old new = Converts c call old new

  abbrev pub Carries : (old : CarrierState W) → WireCall → (new : CarrierState W) → Type 0
  Carries old call new = CarriesAs old.conversion call old new
