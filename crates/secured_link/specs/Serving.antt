-- Two stations in service over secured wires, either of which may restart: what is done at them,
-- whatever arrives. Nothing is asked of the link, except that no frame was forged, and that few
-- were lost in a row (`IsAccepted`).
use Rattle.std.specs.Prelude.{◌≡◌, ◌⊎◌, ◌≤◌, ℕ, zero, suc, List, [], ◌++◌, Ok, None}
use Rattle.cfdp_header.specs.Files.{FileMap}
use Rattle.cfdp_directives.specs.User.Put.{Put}
use Rattle.cfdp_station.specs.Station.{StationState}
use Rattle.cfdp_station.specs.Transmitting.{Times}
use Rattle.cfdp_station.specs.declared.config.StationConfig.{StationConfig}
use Rattle.cfdp_port.specs.Calls.{WireCall, Asked, Timed}
use Rattle.cfdp_port.specs.PeerTurn.{SendsNext, SendsSomeInPart, TakesOne}
use Rattle.cfdp_port.specs.Port.{PortState, port_state}
use Rattle.cfdp_port.specs.Turn.{AsksOn, TellsTime}
use Rattle.any_order.specs.Calls.{Setup, Side, One, Two, other, setup_of}
use Rattle.any_order.specs.Kept.{EndKept, LifeKept}
use Rattle.promises.specs.Passing.{PartReads, TurnReads, with_sent}
use Rattle.promises.specs.Serving.{AreFirst, Deed, DoesDeed, Served, Stations, StartsAnew}
use Rattle.promises.specs.Serving.{Starts, Stops, Turns}
use Rattle.secured_wire.specs.Keeping.{KeeperCall}
use Rattle.secured_wire.specs.Passing.{arrivals, sealed_by_call}
use Rattle.secured_wire.specs.Secured.{Secures, SecuredState}
use Rattle.secured_link.specs.Copies.{Accepts, Numbered, next_in, numbered_from}

-- A station in service, its wire, and what it sealed in all its lives.
pub record SecuredEnd (W : Type 0) : Type 0 where
  pub served : Served
  pub wire : SecuredState W
  pub sealed : List Numbered

-- Both, and the accepted puts of both, in order.
pub record SecuredPair (W : Type 0) : Type 0 where
  pub one : SecuredEnd W
  pub two : SecuredEnd W
  pub puts : List Put

abbrev pub end_at : {W : Type 0} → Side → SecuredPair W → SecuredEnd W
end_at One w = w.one
end_at Two w = w.two

-- both stations, without their wires
abbrev pub stations_of : {W : Type 0} → SecuredPair W → Stations
stations_of w = record { one = w.one.served; two = w.two.served; puts = w.puts }

-- An opener expects at most 32 octets of a MAC, as in each valid configuration.
abbrev pub FitsMac : {W : Type 0} → SecuredState W → Type 0
FitsMac wire = wire.opener.security.mac_len ≤ 32

-- Between two turns the wire may be asked whether it is silent. So the wire below may go on; both
-- ends of the secured wire stay as they are.
pub record Rests {W : Type 0} (old new : SecuredState W) : Type 0 where
  pub sealer : new.sealer ≡ old.sealer
  pub opener : new.opener ≡ old.opener

module _ {W : Type 0} (Steps : W → WireCall → W → Type 0) (Calls : KeeperCall → Type 0) where
  -- what was sealed as so many frames left, numbered on from those of this life
  abbrev pub sealed_of : (count : ℕ) → (old new : PortState (SecuredState W))
      → Times (SendsNext (Secures Steps Calls)) count old new → LifeKept → List Numbered
  sealed_of zero old new same life = []
  sealed_of (suc count) old new (mid, before, step) life =
      let sends = step.sends in
      sealed_of count old mid before life
      ++ numbered_from
      (next_in sends.lane (with_sent (Secures Steps Calls) count old mid before life))
      (sealed_by_call Steps Calls sends.lane sends.frame sends.answer step.ready new.wire
      sends.sent)

  -- ---- turns
  -- A whole turn was taken over the wire of the station. What arrived was accepted or refused,
  -- whatever it was; and what was read of the files to send is what these files have.
  pub record TakesSecuredTurn (files : FileMap) (theirs : List Numbered) (old new : SecuredEnd W)
      : Type 0 where
    pub wire : SecuredState W
    pub rests : Rests old.wire wire
    pub last : PortState (SecuredState W)
    pub turn : TakesOne (Secures Steps Calls) (port_state old.served.kept.station wire) last
    pub heard : EndKept
    pub accepts : Accepts theirs wire.opener
        (arrivals Steps Calls turn.hears.count _ _ turn.hears.heard) old.served.kept heard
    pub reads : TurnReads (Secures Steps Calls) files _ _ turn.sends
    pub kept : new.served.kept ≡ record heard {
      station = last.station;
      latest = with_sent (Secures Steps Calls) turn.sends.count _ _ turn.sends.sent heard.latest;
    }
    pub wire_then : new.wire ≡ last.wire
    pub sealed : new.sealed ≡ old.sealed
        ++ sealed_of turn.sends.count _ _ turn.sends.sent heard.latest

  -- A wire was asked once more, and brought nothing; or it wasn't asked.
  abbrev pub FallsQuiet : (old new : SecuredState W) → Type 0
  FallsQuiet old new = (new ≡ old) ⊎ Secures Steps Calls old (Asked (Ok None)) new

  -- It did that at most, or then said what time it is.
  abbrev pub EndsQuietly : (old new : SecuredState W) → Type 0
  EndsQuietly old new = FallsQuiet old new
      ⊎ ((asked : SecuredState W) × (now : ℕ) × FallsQuiet old asked
      × Secures Steps Calls asked (Timed now) new)

  -- The wire fell quiet and said what time it is, and the station sent some frames. Then the
  -- station was polled at most, and the turn ended.
  pub record SendsSecured (files : FileMap) (mid : PortState (SecuredState W)) (heard : EndKept)
      (sealed : List Numbered) (new : SecuredEnd W) : Type 0 where
    pub asked : SecuredState W
    pub quiet : FallsQuiet mid.wire asked
    pub now : ℕ
    pub timed : SecuredState W
    pub times : Secures Steps Calls asked (Timed now) timed
    pub told : StationState
    pub last : PortState (SecuredState W)
    pub tells : TellsTime now mid.station told
    pub some : SendsSomeInPart (Secures Steps Calls) (port_state told timed) last
    pub reads : PartReads (Secures Steps Calls) files _ _ some
    pub kept : new.served.kept ≡ record heard {
      station = last.station;
      latest = with_sent (Secures Steps Calls) some.count _ _ some.sent heard.latest;
    }
    pub wire_then : new.wire ≡ last.wire
    pub sealed_then : new.sealed ≡ sealed ++ sealed_of some.count _ _ some.sent heard.latest

  -- A turn ended early, since memory ran out or the station was cut off. Some of what arrived was
  -- taken, and no frame left; or some frames left then.
  pub record EndsSecuredEarly (files : FileMap) (theirs : List Numbered) (old new : SecuredEnd W)
      : Type 0 where
    pub wire : SecuredState W
    pub rests : Rests old.wire wire
    pub count : ℕ
    pub mid : PortState (SecuredState W)
    pub hears : Times (AsksOn (Secures Steps Calls)) count
        (port_state old.served.kept.station wire) mid
    pub heard : EndKept
    pub accepts : Accepts theirs wire.opener (arrivals Steps Calls count _ _ hears)
        old.served.kept heard
    pub ends : ((new.served.kept ≡ record heard { station = mid.station })
        × EndsQuietly mid.wire new.wire × (new.sealed ≡ old.sealed))
        ⊎ SendsSecured files mid heard old.sealed new

  -- ---- what is done
  -- A station restarts, with any wire whose sequence numbers go on: the next one is at least the
  -- next one before. Nothing is asked of the number that it accepted last.
  pub record StartsSecured (first number : ℕ) (c : StationConfig) (old new : SecuredEnd W)
      : Type 0 where
    pub starts : StartsAnew first number c old.served new.served
    pub numbers : old.wire.sealer.next ≤ new.wire.sealer.next
    pub mac : FitsMac new.wire
    pub sealed : new.sealed ≡ old.sealed

  -- This was done at a station that is set up so. A turn takes its wire on; all else that is done
  -- to a station leaves its wire as it was.
  abbrev pub DoesSecured : Deed → (c : StationConfig) → (theirs : SecuredEnd W)
      → (old new : SecuredEnd W) → (puts puts_then : List Put) → Type 0
  DoesSecured Turns c theirs old new puts puts_then =
      TakesSecuredTurn old.served.has theirs.sealed old new
      × (new.served ≡ record old.served { kept = new.served.kept }) × (puts_then ≡ puts)
  DoesSecured Stops c theirs old new puts puts_then =
      EndsSecuredEarly old.served.has theirs.sealed old new
      × (new.served ≡ record old.served { kept = new.served.kept }) × (puts_then ≡ puts)
  DoesSecured (Starts first number) c theirs old new puts puts_then =
      StartsSecured first number c old new × (puts_then ≡ puts)
  DoesSecured deed c theirs old new puts puts_then =
      DoesDeed (Secures Steps Calls) deed c theirs.served.kept old.served new.served puts puts_then
      × (new.wire ≡ old.wire) × (new.sealed ≡ old.sealed)

  -- Something is done at one of both stations.
  pub record GoesSecured (c : Setup) (old new : SecuredPair W) : Type 0 where
    pub side : Side
    pub deed : Deed
    pub does : DoesSecured deed (setup_of side c) (end_at (other side) old) (end_at side old)
        (end_at side new) old.puts new.puts
    pub others : end_at (other side) new ≡ end_at (other side) old

  -- So many things were done at both, in any order, from their beginning on, when nothing was
  -- sealed yet under any key.
  pub record HaveServedSecured (c : Setup) (files : Side → FileMap) (now : SecuredPair W)
      : Type 0 where
    pub counts : Side → ℕ
    pub sources : Side → FileMap
    pub first : SecuredPair W
    pub begins : AreFirst c counts sources files (stations_of first)
    pub sealed : (s : Side) → (end_at s first).sealed ≡ []
    pub macs : (s : Side) → FitsMac (end_at s first).wire
    pub count : ℕ
    pub went : Times (GoesSecured c) count first now
