-- Two stations in service over a link that keeps no order, as `Serving` has them. A station that
-- was killed may restart, or it may resume.
use Rattle.std.specs.Prelude.{◌≡◌, ◌+◌, ◌<◌, ◌≤◌, ℕ, List, [], ◌++◌, length, map, slice_get, take}
use Rattle.std.specs.Prelude.{Contains, Some, None}
use Rattle.aos_frame.specs.declared.config.Lane.{Lane}
use Rattle.link_stack.specs.Downward.{both_counted_from, first_down}
use Rattle.link_stack.specs.Upward.{first_up}
use Rattle.cfdp_header.specs.declared.value.TransactionId.{TransactionId}
use Rattle.cfdp_header.specs.Files.{FileMap}
use Rattle.cfdp_directives.specs.declared.user.indication.Indication.{Indication}
use Rattle.cfdp_directives.specs.User.Completions.{FinishedOnce}
use Rattle.cfdp_directives.specs.User.Put.{Put}
use Rattle.cfdp_store.specs.Files.{octets_in}
use Rattle.cfdp_store.specs.Staged.{OctetMap}
use Rattle.cfdp_sender.specs.State.{SenderState}
use Rattle.cfdp_receiver.specs.State.{ReceiverState, kind_told}
use Rattle.cfdp_receiver.specs.Summed.{SumsStaged}
use Rattle.cfdp_receiver.specs.declared.state.ReceiverPhase.TheVariants.{Receiving}
use Rattle.cfdp_entity.specs.Entity.{EntityState}
use Rattle.cfdp_entity.specs.Seen.{Receives, Sends}
use Rattle.cfdp_entity.specs.Table.{Entry}
use Rattle.cfdp_resuming.specs.Entity.{IsResumed}
use Rattle.cfdp_station.specs.declared.config.StationConfig.{StationConfig}
use Rattle.cfdp_station.specs.Transmitting.{Times}
use Rattle.shown_sources.specs.Shown.{AreAsLong, entity_sending}
use Rattle.any_order.specs.Calls.{Setup, Side, One, Two, other, setup_of}
use Rattle.any_order.specs.Kept.{EndKept, all_kept, frames_in}
use Rattle.cfdp_port.specs.Calls.{WireCall}
use Rattle.cfdp_service.specs.Calls.{UserCall, Hears}
use Rattle.promises.specs.Serving.{AreFirst, Deed, DoesDeed, Served, Starts, Stations, life_from}

-- ---- a life of a station
-- A station in its present life, with the calls of its user in this life, as `Serving` has it. If
-- it resumed as this life began: the records that came back then, and what its user heard before
-- all these calls, since the user of the life before may not have heard it. Otherwise there is
-- neither.
pub record ServiceLife : Type 0 where
  pub served : Served
  pub back : List Entry
  pub again : List Indication

abbrev pub entity_in : ServiceLife → EntityState
entity_in l = l.served.kept.station.entity.state

-- all calls of its user in this life
abbrev pub calls_in : ServiceLife → List UserCall
calls_in l = map Hears l.again ++ l.served.calls

-- Both stations, each in its present life, and the accepted puts of both, in order.
pub record BothLives : Type 0 where
  pub one : ServiceLife
  pub two : ServiceLife
  pub puts : List Put

abbrev pub life_of : Side → BothLives → ServiceLife
life_of One w = w.one
life_of Two w = w.two

-- both stations, as `Serving` has them
abbrev pub stations_of : BothLives → Stations
stations_of w = record { one = w.one.served; two = w.two.served; puts = w.puts }

-- ---- a station resumes
-- A station was killed, and resumes. With what the files had that it was sending, in place of what
-- its outbox has, its entity is restored (`IsResumed`). Its outbox may have other files than
-- before, and no code sees what they have; but the file of each record that came back must be
-- there, with what it had. The link is new: its frames are counted from a number after those of its
-- frames before, and at least one number is left out. Its inbox goes on. Some of what it had
-- indicated counts as discarded from the start on. The user may hear any of that again, but no end
-- of a transaction twice.
pub record ResumesFrom (first : ℕ) (c : StationConfig) (old new : ServiceLife) : Type 0 where
  pub entity : IsResumed (entity_sending old.served.has (entity_in old))
      (entity_sending old.served.has (entity_in new))
  pub files : (place : ℕ) (id : TransactionId) (x : SenderState)
      → slice_get (entity_in new).table.records place ≡ Some (id, Sends x)
      → octets_in new.served.has x.source ≡ octets_in old.served.has x.source
  pub long : AreAsLong (entity_in new).table.sources new.served.has
  pub down : new.served.kept.station.down ≡ both_counted_from first (first_down c.sends c.capacity)
  pub up : new.served.kept.station.up ≡ first_up c.receives
  pub apart : (lane : Lane) → old.served.kept.latest.first
      + length (frames_in lane old.served.kept.latest) < first
  pub kept : new.served.kept ≡ record {
    station = new.served.kept.station;
    before = all_kept old.served.kept;
    latest = life_from first;
    told_before = old.served.kept.told_before;
    last_directives = None;
    last_data = None;
  }
  pub calls : new.served.calls ≡ []
  pub begun : new.served.begun ≡ old.served.begun
  pub inboxes_before : new.served.inboxes_before ≡ old.served.inboxes_before
  pub few : (entity_in new).table.gone ≤ length (entity_in new).table.told
  pub back : new.back ≡ (entity_in new).table.records
  pub again : (i : Indication) → Contains new.again i
      → Contains (take (entity_in new).table.gone (entity_in new).table.told) i
  pub once : FinishedOnce new.again

-- The sums of each receiver that receives are those of what it holds, which is staged.
abbrev pub AreSummed : List Entry → Type 0
AreSummed records = (place : ℕ) (id : TransactionId) (r : ReceiverState) (m : OctetMap)
    → slice_get records place ≡ Some (id, Receives r m) → r.phase ≡ Receiving
    → SumsStaged (kind_told r.metadata) r.held m r.sums

-- ---- what is done
-- What is done at a station, as `Serving` has it, or that it resumes, and counts its frames from
-- this number on.
pub data ServiceEvent : Type 0 where
  Does : Deed → ServiceEvent
  Resumes : (first : ℕ) → ServiceEvent

-- How a life began stays as it was. A start begins a life with nothing.
abbrev pub BeganAs : Deed → (old new : ServiceLife) → Type 0
BeganAs (Starts first number) old new = (new.back ≡ []) × (new.again ≡ [])
BeganAs _ old new = (new.back ≡ old.back) × (new.again ≡ old.again)

-- This was done at a station that is set up so, `theirs` being what is kept of the other one.
abbrev pub DoesEvent : {W : Type 0} → (Steps : W → WireCall → W → Type 0) → ServiceEvent
    → (c : StationConfig) → (theirs : EndKept) → (old new : ServiceLife)
    → (puts puts_then : List Put) → Type 0
DoesEvent Steps (Does deed) c theirs old new puts puts_then =
    DoesDeed Steps deed c theirs old.served new.served puts puts_then × BeganAs deed old new
DoesEvent Steps (Resumes first) c theirs old new puts puts_then =
    ResumesFrom first c old new × (puts_then ≡ puts)

-- Something is done at one of both stations, or it resumes.
pub record GoesOrResumes {W : Type 0} (Steps : W → WireCall → W → Type 0) (c : Setup)
    (old new : BothLives) : Type 0 where
  pub side : Side
  pub event : ServiceEvent
  pub does : DoesEvent Steps event (setup_of side c) (life_of (other side) old).served.kept
      (life_of side old) (life_of side new) old.puts new.puts
  pub others : life_of (other side) new ≡ life_of (other side) old

-- So many events came at both, in any order, from their beginning on.
pub record HaveServedOrResumed {W : Type 0} (Steps : W → WireCall → W → Type 0) (c : Setup)
    (files : Side → FileMap) (now : BothLives) : Type 0 where
  pub counts : Side → ℕ
  pub sources : Side → FileMap
  pub first : BothLives
  pub begins : AreFirst c counts sources files (stations_of first)
  pub none_back : (s : Side) → (life_of s first).back ≡ []
  pub none_again : (s : Side) → (life_of s first).again ≡ []
  pub count : ℕ
  pub went : Times (GoesOrResumes Steps c) count first now
