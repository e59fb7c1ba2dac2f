-- Two stations in service whose files to send stand: what is done at either, one thing after another. Those of `specs` are
-- led to these by putting what their files have in the place of what the outbox has.
use Rattle.std.specs.Prelude.{◌≡◌, ◌⊎◌, ◌<◌, ◌≤◌, ◌+◌, ℕ, List, [], ◌∷◌, ◌++◌, length, map, slice_get, Some, None, Result, Err, IsTrue, Contains}
use Rattle.aos_frame.specs.declared.config.Lane.{Lane}
use Rattle.cfdp_header.specs.declared.value.TransactionId.{TransactionId}
use Rattle.cfdp_header.specs.Files.{FileMap}
use Rattle.cfdp_directives.specs.User.Completions.{FinishedOnce}
use Rattle.cfdp_directives.specs.User.Put.{Put, inbox_after}
use Rattle.cfdp_store.specs.Files.{octets_in}
use Rattle.cfdp_sender.specs.State.{SenderState}
use Rattle.cfdp_entity.specs.declared.error.PutError.{PutError}
use Rattle.cfdp_entity.specs.declared.error.PutError.TheVariants.{SourceFault}
use Rattle.cfdp_entity.specs.Config.{IsConfig}
use Rattle.cfdp_entity.specs.Seen.{Sends}
use Rattle.cfdp_entity.specs.Table.{TableState}
use Rattle.cfdp_station.specs.declared.config.StationConfig.{StationConfig}
use Rattle.cfdp_station.specs.Requests.{StationAnswers}
use Rattle.cfdp_station.specs.Station.{StationState}
use Rattle.cfdp_station.specs.Transmitting.{Times}
use Rattle.any_order.specs.Calls.{Pair, Setup, Side, at, entity_of, numbered_from, other, setup_of}
use Rattle.any_order.specs.Kept.{EndKept, IsOf, all_kept, frames_in}
use Rattle.cfdp_port.specs.Asking.{CountsFrom, FailsToLook, LooksAt, Puts}
use Rattle.cfdp_port.specs.Asking as asking
use Rattle.cfdp_port.specs.Calls.{WireCall}
use Rattle.cfdp_port.specs.Port.{table_of}
use Rattle.cfdp_service.specs.Calls.{Hears}
use Rattle.cfdp_service.specs.declared.wish.Reply.{Reply}
use Rattle.cfdp_service.specs.declared.wish.Reply.TheVariants as replies
use Rattle.cfdp_service.specs.declared.wish.Wish.{Wish}
use Rattle.cfdp_service.specs.declared.wish.Wish.TheVariants as wishes
use Rattle.cfdp_service.specs.Serving.{once_told, said_by, wish_calls}
use Rattle.aos_frame.specs.declared.config.LinkConfig.{LinkConfig}
use Rattle.cfdp_port.specs.Passing.{frames_came}
use Rattle.cfdp_port.specs.PeerTurn.{SendsSomeInPart, TakesOne}
use Rattle.cfdp_port.specs.Port.{PortState, port_state}
use Rattle.cfdp_port.specs.Turn.{AsksOn, TellsTime}
use Rattle.any_order.specs.Promise.{CausedAt, ToldAt, TruthAt, found}
use Rattle.promises.specs.Passing.{Comes, with_sent}
use Rattle.promises.specs.Promise.{CanBe, FollowEachOther, IsFolded, completed_by, inbox_of, own_of}
use Rattle.promises.specs.Serving.{Deed, InboxLife, Wishes, Says, Tells, LetsGo, Turns, Stops, Starts, IsBegun, IsSaid, Served, Stations, accepted_by, inboxes, life_from, served_at, served_on}

-- ---- turns
-- The files that a station sends stand: every read showed what was there before.
abbrev pub Stand : StationState → Type 0
Stand s = IsTrue (table_of s).stands

module _ {W : Type 0} (Steps : W → WireCall → W → Type 0) where
  -- A whole turn was taken. Of the datagrams that came each is a frame of the other station, or no
  -- packet can come of it; the frames that left are kept; and the files stand.
  pub record TakesTurn (link : LinkConfig) (theirs old new : EndKept) : Type 0 where
    pub wire : W
    pub last : PortState W
    pub turn : TakesOne Steps (port_state old.station wire) last
    pub heard : EndKept
    pub came : Comes link (frames_came Steps turn.hears.count _ _ turn.hears.heard) theirs old heard
    pub stand : Stand last.station
    pub kept : new ≡ record heard {
      station = last.station;
      latest = with_sent Steps turn.sends.count _ _ turn.sends.sent heard.latest;
    }

  -- After what it heard, a station was given the time, and sent some frames; then it was polled at
  -- most, and the turn ended. The frames that left are kept.
  pub record SendsThen (mid : PortState W) (heard new : EndKept) : Type 0 where
    pub now : ℕ
    pub timed : W
    pub told : StationState
    pub last : PortState W
    pub tells : TellsTime now mid.station told
    pub some : SendsSomeInPart Steps (port_state told timed) last
    pub stand : Stand last.station
    pub kept : new ≡ record heard {
      station = last.station;
      latest = with_sent Steps some.count _ _ some.sent heard.latest;
    }

  -- A turn ended early, for lack of memory, or since the station was cut off. Some of what came was
  -- taken, and that was all; or some frames left then.
  pub record EndsEarly (link : LinkConfig) (theirs old new : EndKept) : Type 0 where
    pub wire : W
    pub count : ℕ
    pub mid : PortState W
    pub hears : Times (AsksOn Steps) count (port_state old.station wire) mid
    pub heard : EndKept
    pub came : Comes link (frames_came Steps count _ _ hears) theirs old heard
    pub ends : (new ≡ record heard { station = mid.station }) ⊎ SendsThen mid heard new

-- ---- what is wished
-- Of each record that sends or sent a file of this name, the file is what it was.
abbrev pub KeepsSent : List ℕ → (old new : TableState) → Type 0
KeepsSent name old new = (place : ℕ) (id : TransactionId) (x : SenderState)
    → slice_get old.records place ≡ Some (id, Sends x) → x.source ≡ name
    → octets_in new.sources name ≡ octets_in old.sources name

-- A file was looked for, and its put was answered so.
pub record PutsFile (source destination : List ℕ) (answer : Result TransactionId PutError)
    (old new : StationState) (accepted : List Put) : Type 0 where
  pub looked : StationState
  pub looks : LooksAt source old looked
  pub keeps : KeepsSent source (table_of old) (table_of looked)
  pub puts : Puts source destination answer looked new
  pub added : accepted ≡ accepted_by source destination answer looked.entity.state

-- The station did what its user wished, answered so, and these puts were accepted by that.
abbrev pub Fulfils : Wish → Reply → (old new : StationState) → (added : List Put) → Type 0
Fulfils (wishes.Put names) (replies.Put answer) old new added =
    PutsFile names.source.items names.destination.items answer old new added
    ⊎ ((answer ≡ Err SourceFault) × FailsToLook old new × (added ≡ []))
Fulfils (wishes.Change id request) (replies.Change answer) old new added =
    StationAnswers request id answer old new × (added ≡ [])
Fulfils _ _ old new added = ⊥

-- ---- a life begins
-- Nothing was done yet at a station.
pub record IsFirst (c : StationConfig) (first : ℕ) (sources files : FileMap) (s : Served)
    : Type 0 where
  pub begun : IsBegun c first sources files s.kept.station
  pub kept : s.kept ≡ record {
    station = s.kept.station;
    before = [];
    latest = life_from first;
    told_before = [];
    last_directives = None;
    last_data = None;
  }
  pub calls : s.calls ≡ []
  pub is_begun : s.begun ≡ files
  pub inboxes_before : s.inboxes_before ≡ []

-- A station restarts: with any files in its inbox, and with any files to send. Its frames must be
-- counted from a number after those of its frames before, with at least one left out, and its puts
-- must be numbered from a number on that no put of it had.
pub record StartsAnew (first number : ℕ) (c : StationConfig) (old new : Served) : Type 0 where
  pub valid : IsConfig (numbered_from number c.entity)
  pub sources : FileMap
  pub begun : IsBegun (record c { entity = numbered_from number c.entity }) first sources
      new.begun new.kept.station
  pub unused : old.kept.station.entity.state.next ≤ number
  pub apart : (lane : Lane) →
      old.kept.latest.first + length (frames_in lane old.kept.latest) < first
  pub kept : new.kept ≡ record {
    station = new.kept.station;
    before = all_kept old.kept;
    latest = life_from first;
    told_before = old.kept.told_before ++ (table_of old.kept.station).told;
    last_directives = None;
    last_data = None;
  }
  pub calls : new.calls ≡ []
  pub inboxes_before : new.inboxes_before ≡ inboxes old

-- ---- what is done
-- This was done at a station that is set up so, `theirs` being what is kept of the other one.
abbrev pub DoesDeed : {W : Type 0} → (Steps : W → WireCall → W → Type 0) → Deed
    → (c : StationConfig) → (theirs : EndKept) → (old new : Served) → (puts puts_then : List Put)
    → Type 0
DoesDeed Steps (Wishes wish reply) c theirs old new puts puts_then =
    (station : StationState) × (added : List Put)
    × Fulfils wish reply old.kept.station station added
    × (new ≡ served_on station (wish_calls (wish, reply)) old) × (puts_then ≡ puts ++ added)
DoesDeed Steps (Says call) c theirs old new puts puts_then =
    IsSaid call × (new ≡ served_on old.kept.station (call ∷ []) old) × (puts_then ≡ puts)
DoesDeed Steps Tells c theirs old new puts puts_then =
    (new ≡ served_on (once_told old.kept.station)
    (map Hears (said_by (table_of old.kept.station))) old) × (puts_then ≡ puts)
DoesDeed Steps LetsGo c theirs old new puts puts_then =
    (station : StationState) × asking.LetsGo old.kept.station station
    × (new ≡ served_on station [] old) × (puts_then ≡ puts)
DoesDeed Steps Turns c theirs old new puts puts_then =
    TakesTurn Steps c.receives theirs old.kept new.kept × (new ≡ record old { kept = new.kept })
    × (puts_then ≡ puts)
DoesDeed Steps Stops c theirs old new puts puts_then =
    EndsEarly Steps c.receives theirs old.kept new.kept × (new ≡ record old { kept = new.kept })
    × (puts_then ≡ puts)
DoesDeed Steps (Starts first number) c theirs old new puts puts_then =
    StartsAnew first number c old new × (puts_then ≡ puts)

-- Something is done at one of both stations.
pub record Goes {W : Type 0} (Steps : W → WireCall → W → Type 0) (c : Setup) (old new : Stations)
    : Type 0 where
  pub side : Side
  pub deed : Deed
  pub does : DoesDeed Steps deed (setup_of side c) (served_at (other side) old).kept
      (served_at side old) (served_at side new) old.puts new.puts
  pub others : served_at (other side) new ≡ served_at (other side) old

-- Nothing was done at either yet: their frames are counted from these numbers on, and they have
-- these files to send, and in their inboxes.
pub record AreFirst (c : Setup) (counts : Side → ℕ) (sources files : Side → FileMap) (w : Stations)
    : Type 0 where
  pub each : (s : Side) → IsFirst (setup_of s c) (counts s) (sources s) (files s) (served_at s w)
  pub puts : w.puts ≡ []

-- So many things were done at both, in any order, from their beginning on.
pub record HaveServed {W : Type 0} (Steps : W → WireCall → W → Type 0) (c : Setup)
    (files : Side → FileMap) (now : Stations) : Type 0 where
  pub counts : Side → ℕ
  pub sources : Side → FileMap
  pub first : Stations
  pub begins : AreFirst c counts sources files first
  pub count : ℕ
  pub went : Times (Goes Steps c) count first now

-- ---- the promise
-- The promise holds of both stations and of all that was done with them.
pub record KeepPromise (c : Setup) (files : Side → FileMap) (w : Stations) : Type 0 where
  pub now : Pair
  pub is : (s : Side) → IsOf (served_at s w).kept (at s now)
  pub puts : now.puts ≡ w.puts
  pub can_be : (s : Side) → CanBe (setup_of s c) (setup_of (other s) c) (at s now) (at (other s) now)
  pub once : (s : Side) → FinishedOnce (entity_of (at s now)).table.told
  pub caused : (s : Side) → CausedAt s now
  pub told : (s : Side) → ToldAt s now
  pub truth : (s : Side) → TruthAt s now
  pub folded : (s : Side) (l : InboxLife) → Contains (inboxes (served_at s w)) l → IsFolded (own_of (served_at s w)) w.puts l
  pub inbox : (s : Side) → FollowEachOther (files s) (inboxes (served_at s w)) → inbox_of (served_at s w) ≡ inbox_after (found w.puts) (files s) (completed_by (served_at s w))
