-- Two stations in service over a link that keeps no order, each of which may restart: what is done
-- at either, one thing after another.
use Rattle.std.specs.FinMap.{get}
use Rattle.std.specs.Prelude.{◌≡◌, ◌≢◌, ◌⊎◌, ◌<◌, ◌≤◌, ◌+◌, ◌%◌, ℕ, List, [], ◌∷◌, ◌++◌, length, map, slice_get, Some, None, Result, Ok, Err, true, ⊤}
use Rattle.std.proofs.Common.{inl, inr}
use Rattle.aos_frame.specs.Counts.{frame_counts}
use Rattle.aos_frame.specs.declared.config.Lane.{Lane}
use Rattle.cfdp_header.specs.declared.value.TransactionId.{TransactionId}
use Rattle.cfdp_header.specs.Files.{FileMap}
use Rattle.cfdp_directives.specs.declared.user.indication.Indication.{Indication}
use Rattle.cfdp_directives.specs.User.Put.{Put}
use Rattle.cfdp_store.specs.Files.{octets_in}
use Rattle.cfdp_sender.specs.State.{SenderState}
use Rattle.cfdp_entity.specs.declared.error.PutError.{PutError}
use Rattle.cfdp_entity.specs.declared.error.PutError.TheVariants.{SourceFault}
use Rattle.cfdp_entity.specs.Config.{IsConfig}
use Rattle.cfdp_entity.specs.Entity.{EntityState}
use Rattle.cfdp_entity.specs.Looking.{IsSent}
use Rattle.cfdp_entity.specs.Seen.{Sends}
use Rattle.cfdp_entity.specs.Sound.{next_put}
use Rattle.cfdp_entity.specs.Table.{TableState}
use Rattle.cfdp_station.specs.declared.config.StationConfig.{StationConfig}
use Rattle.cfdp_station.specs.Requests.{StationAnswers}
use Rattle.cfdp_station.specs.Station.{StationState}
use Rattle.cfdp_station.specs.Transmitting.{Times}
use Rattle.cfdp_station.specs.New.{IsNewAt}
use Rattle.shown_sources.specs.Shown.{AreAsLong, entity_sending, station_sending}
use Rattle.any_order.specs.Calls.{Setup, Side, One, Two, numbered_from, other, setup_of}
use Rattle.any_order.specs.Kept.{EndKept, LifeKept, all_kept, frames_in}
use Rattle.cfdp_port.specs.Asking.{CountsFrom, FailsToLook, LooksAt, Puts}
use Rattle.cfdp_port.specs.Asking as asking
use Rattle.cfdp_port.specs.Calls.{WireCall}
use Rattle.cfdp_port.specs.Port.{table_of}
use Rattle.cfdp_service.specs.Calls.{UserCall, Asks, Hears, Intends, Ends}
use Rattle.cfdp_service.specs.declared.wish.Reply.{Reply}
use Rattle.cfdp_service.specs.declared.wish.Reply.TheVariants as replies
use Rattle.cfdp_service.specs.declared.wish.Wish.{Wish}
use Rattle.cfdp_service.specs.declared.wish.Wish.TheVariants as wishes
use Rattle.cfdp_service.specs.declared.user.Intent.{Intent}
use Rattle.cfdp_service.specs.Serving.{Does, Prepares, once_told, said_by, wish_calls}
use Rattle.promises.specs.Passing as passing

-- ---- a station in service
-- A life of an inbox: which files it had as the life of its station began, which may be any; what
-- the station indicated in this life; and which files the inbox has, or had as the life ended.
pub record InboxLife : Type 0 where
  pub begun : FileMap
  pub told : List Indication
  pub files : FileMap

-- What is kept of it; the calls of its user in this life; what the files have that it can send,
-- since each was looked for: as others made them, and no code sees more of them than it reads;
-- which files its inbox had as this life began; and the lives before of its inbox.
pub record Served : Type 0 where
  pub kept : EndKept
  pub calls : List UserCall
  pub has : FileMap
  pub begun : FileMap
  pub inboxes_before : List InboxLife

-- all lives of its inbox, this one last
abbrev pub inboxes : Served → List InboxLife
inboxes s = s.inboxes_before ++ record {
  begun = s.begun;
  told = (table_of s.kept.station).told;
  files = (table_of s.kept.station).files;
} ∷ []

-- what is kept of a station, with these files to send in the place of those of its outbox
abbrev pub kept_sending : FileMap → EndKept → EndKept
kept_sending files k = record k { station = station_sending files k.station }

-- the same, if the station became this one, and these calls of its user were made
abbrev pub served_on : StationState → List UserCall → Served → Served
served_on station calls s = record s {
  kept = record s.kept { station = station };
  calls = s.calls ++ calls;
}

-- the same, if the files to send have this
abbrev pub with_has : FileMap → Served → Served
with_has has s = record s { has = has }

-- Both stations, and the accepted puts of both, in order.
pub record Stations : Type 0 where
  pub one : Served
  pub two : Served
  pub puts : List Put

abbrev pub served_at : Side → Stations → Served
served_at One w = w.one
served_at Two w = w.two

-- ---- what is wished
-- the put that was accepted, if this answered it
abbrev pub accepted_by : (source destination : List ℕ) → Result TransactionId PutError → EntityState
    → List Put
accepted_by source destination (Ok id) e = next_put source destination e ∷ []
accepted_by source destination (Err by) e = []

-- A file was looked for, and the files to send have this now. Each is as long as the outbox found
-- it. Only the one that was looked for may have something else: not if a record is sending it, nor
-- if a record is left that has sent it.
pub record Finds (name : List ℕ) (has now : FileMap) (old looked : TableState) : Type 0 where
  pub long : AreAsLong looked.sources now
  pub others : (other : List ℕ) → other ≢ name → get now other ≡ get has other
  pub sent : IsSent name old → now ≡ has
  pub keeps : (place : ℕ) (id : TransactionId) (x : SenderState)
      → slice_get old.records place ≡ Some (id, Sends x) → x.source ≡ name
      → octets_in now name ≡ octets_in has name

-- A file was looked for, and its put was answered so: the put is of what the file has.
pub record PutsFile (source destination : List ℕ) (answer : Result TransactionId PutError)
    (has now : FileMap) (old new : StationState) (accepted : List Put) : Type 0 where
  pub looked : StationState
  pub looks : LooksAt source old looked
  pub finds : Finds source has now (table_of old) (table_of looked)
  pub puts : Puts source destination answer looked new
  pub added : accepted
      ≡ accepted_by source destination answer (entity_sending now looked.entity.state)

-- The station did what its user wished, answered so, and these puts were accepted by that; what the
-- files to send had before, and have now.
abbrev pub Fulfils : Wish → Reply → (has now : FileMap) → (old new : StationState)
    → (added : List Put) → Type 0
Fulfils (wishes.Put names) (replies.Put answer) has now old new added =
    PutsFile names.source.items names.destination.items answer has now old new added
    ⊎ ((answer ≡ Err SourceFault) × FailsToLook old new × (now ≡ has) × (added ≡ []))
Fulfils (wishes.Change id request) (replies.Change answer) has now old new added =
    StationAnswers request id answer old new × (now ≡ has) × (added ≡ [])
Fulfils _ _ has now old new added = ⊥

-- A record is sending the file that is wished, or none is left that has its name. So no look for it
-- can change what a record sent.
abbrev pub IsFree : Wish → TableState → Type 0
IsFree (wishes.Put names) t = IsSent names.source.items t
    ⊎ ((place : ℕ) (id : TransactionId) (x : SenderState)
    → slice_get t.records place ≡ Some (id, Sends x) → x.source ≢ names.source.items)
IsFree (wishes.Change id request) t = ⊤

-- What the files to send may have once a wish was done: anything that is as long, of the file that
-- was looked for, if none was being sent under its name; and otherwise what they had.
abbrev pub MayFind : (wish : Wish) → (reply : Reply) → (old new : StationState)
    → Does wish reply old new → (has now : FileMap) → Type 0
MayFind (wishes.Put names) (replies.Put answer) old new (inl (looked, looks, puts)) has now =
    AreAsLong (table_of looked).sources now
    × ((other : List ℕ) → other ≢ names.source.items → get now other ≡ get has other)
    × (IsSent names.source.items (table_of old) → now ≡ has)
MayFind (wishes.Put names) (replies.Put answer) old new (inr failed) has now = now ≡ has
MayFind (wishes.Change id request) (replies.Change answer) old new does has now = now ≡ has
MayFind (wishes.Put names) (replies.Change answer) old new does has now = ⊤
MayFind (wishes.Change id request) (replies.Put answer) old new does has now = ⊤

-- By this call the user wishes nothing more before the next turn, says what it intends, or hears
-- that the station ended.
abbrev pub IsSaid : UserCall → Type 0
IsSaid (Asks None) = ⊤
IsSaid (Intends intent) = ⊤
IsSaid Ends = ⊤
IsSaid _ = ⊥

-- ---- a life begins
-- A station is new, as a program makes it, and its frames are counted from this number on. It has
-- these files to send, which stand, and those in its inbox, as the inbox says.
pub record IsBegun (c : StationConfig) (first : ℕ) (sources files : FileMap) (s : StationState)
    : Type 0 where
  pub fresh : StationState
  pub is_new : IsNewAt c true sources files fresh
  pub count : ℕ
  pub counts : CountsFrom count fresh s
  pub counted : count % frame_counts ≡ first % frame_counts

-- no frame of this life was made yet
abbrev pub life_from : ℕ → LifeKept
life_from first = record { first = first; directives = []; file_data = [] }

-- Nothing was done yet at a station. What its files to send have is as long.
pub record IsFirst (c : StationConfig) (first : ℕ) (sources files : FileMap) (s : Served)
    : Type 0 where
  pub begun : IsBegun c first sources files s.kept.station
  pub long : AreAsLong sources s.has
  pub kept : s.kept ≡ record {
    station = s.kept.station;
    before = [];
    latest = life_from first;
    told_before = [];
    last_directives = None;
    last_data = None;
  }
  pub calls : s.calls ≡ []
  pub is_begun : s.begun ≡ files
  pub inboxes_before : s.inboxes_before ≡ []

-- A station restarts: with any files in its inbox, and with any files to send, which have anything.
-- Its frames must be counted from a number after those of its frames before, with at least one left
-- out, and its puts must be numbered from a number on that no put of it had.
pub record StartsAnew (first number : ℕ) (c : StationConfig) (old new : Served) : Type 0 where
  pub valid : IsConfig (numbered_from number c.entity)
  pub sources : FileMap
  pub begun : IsBegun (record c { entity = numbered_from number c.entity }) first sources
      new.begun new.kept.station
  pub unused : old.kept.station.entity.state.next ≤ number
  pub apart : (lane : Lane) →
      old.kept.latest.first + length (frames_in lane old.kept.latest) < first
  pub kept : new.kept ≡ record {
    station = new.kept.station;
    before = all_kept old.kept;
    latest = life_from first;
    told_before = old.kept.told_before ++ (table_of old.kept.station).told;
    last_directives = None;
    last_data = None;
  }
  pub calls : new.calls ≡ []
  pub inboxes_before : new.inboxes_before ≡ inboxes old
  pub long : AreAsLong sources new.has

-- ---- what is done
-- What is done at a station: a wish of its user, and how it was answered; a call by which the user
-- wishes and hears nothing; what was indicated is reported to the user, and discarded; transactions
-- that are over are released; a turn, whole or not; and a start.
pub data Deed : Type 0 where
  Wishes : Wish → Reply → Deed
  Says : UserCall → Deed
  Tells : Deed
  LetsGo : Deed
  Turns : Deed
  Stops : Deed
  Starts : (first number : ℕ) → Deed

-- This was done at a station that is set up so, `theirs` being what is kept of the other one.
abbrev pub DoesDeed : {W : Type 0} → (Steps : W → WireCall → W → Type 0) → Deed
    → (c : StationConfig) → (theirs : EndKept) → (old new : Served) → (puts puts_then : List Put)
    → Type 0
DoesDeed Steps (Wishes wish reply) c theirs old new puts puts_then =
    (station : StationState) × (now : FileMap) × (added : List Put)
    × Fulfils wish reply old.has now old.kept.station station added
    × (new ≡ with_has now (served_on station (wish_calls (wish, reply)) old))
    × (puts_then ≡ puts ++ added)
DoesDeed Steps (Says call) c theirs old new puts puts_then =
    IsSaid call × (new ≡ served_on old.kept.station (call ∷ []) old) × (puts_then ≡ puts)
DoesDeed Steps Tells c theirs old new puts puts_then =
    (new ≡ served_on (once_told old.kept.station)
    (map Hears (said_by (table_of old.kept.station))) old) × (puts_then ≡ puts)
DoesDeed Steps LetsGo c theirs old new puts puts_then =
    (station : StationState) × asking.LetsGo old.kept.station station
    × (new ≡ served_on station [] old) × (puts_then ≡ puts)
DoesDeed Steps Turns c theirs old new puts puts_then =
    passing.TakesTurn Steps c.receives old.has theirs old.kept new.kept
    × (new ≡ record old { kept = new.kept }) × (puts_then ≡ puts)
DoesDeed Steps Stops c theirs old new puts puts_then =
    passing.EndsEarly Steps c.receives old.has theirs old.kept new.kept
    × (new ≡ record old { kept = new.kept }) × (puts_then ≡ puts)
DoesDeed Steps (Starts first number) c theirs old new puts puts_then =
    StartsAnew first number c old new × (puts_then ≡ puts)

-- Something is done at one of both stations.
pub record Goes {W : Type 0} (Steps : W → WireCall → W → Type 0) (c : Setup) (old new : Stations)
    : Type 0 where
  pub side : Side
  pub deed : Deed
  pub does : DoesDeed Steps deed (setup_of side c) (served_at (other side) old).kept
      (served_at side old) (served_at side new) old.puts new.puts
  pub others : served_at (other side) new ≡ served_at (other side) old

-- Nothing was done at either yet: their frames are counted from these numbers on, and they have
-- these files to send, and in their inboxes.
pub record AreFirst (c : Setup) (counts : Side → ℕ) (sources files : Side → FileMap) (w : Stations)
    : Type 0 where
  pub each : (s : Side) → IsFirst (setup_of s c) (counts s) (sources s) (files s) (served_at s w)
  pub puts : w.puts ≡ []

-- So many things were done at both, in any order, from their beginning on.
pub record HaveServed {W : Type 0} (Steps : W → WireCall → W → Type 0) (c : Setup)
    (files : Side → FileMap) (now : Stations) : Type 0 where
  pub counts : Side → ℕ
  pub sources : Side → FileMap
  pub first : Stations
  pub begins : AreFirst c counts sources files first
  pub count : ℕ
  pub went : Times (Goes Steps c) count first now

-- ---- what a service does
-- These wishes were done and answered, in this order; each was free, and the files to send have
-- this now.
abbrev pub DoesFree : List (Wish × Reply) → (has now : FileMap) → (old new : StationState) → Type 0
DoesFree [] has now old new = (now ≡ has) × (new ≡ old)
DoesFree (one ∷ more) has now old new =
    (then : FileMap) × (mid : StationState) × (added : List Put)
    × Fulfils one.0 one.1 has then old mid added × DoesFree more then now mid new

-- All was done that is between two turns in service, by these calls of the user. What the files to
-- send have is changed by looks alone.
pub record IsPrepared (calls : List UserCall) (has now : FileMap) (old new : StationState)
    : Type 0 where
  pub prepared : List UserCall
  pub prepares : Prepares prepared old new
  pub free : DoesFree prepares.obeys.done has now old prepares.done
  pub intent : Intent
  pub is : calls ≡ prepared ++ Intends intent ∷ []

-- Deeds at one side alone led to this station there, and to these puts.
pub record Leads {W : Type 0} (Steps : W → WireCall → W → Type 0) (c : Setup) (s : Side)
    (old : Stations) (station : Served) (puts : List Put) : Type 0 where
  pub count : ℕ
  pub now : Stations
  pub went : Times (Goes Steps c) count old now
  pub here : served_at s now ≡ station
  pub beside : served_at (other s) now ≡ served_at (other s) old
  pub all : now.puts ≡ puts
