-- All that may happen to a table, as one step, and what every step keeps.
use Rattle.std.specs.Prelude.{◌≡◌, ℕ, ◌+◌, ◌≤◌, ◌||◌, Bool, true, false, List, [], ◌∷◌, slice_get, Option, Some, None, if◌then◌else◌}
use Rattle.std.specs.List.{IsDistinct}
use Rattle.std.specs.Map.{keys_of}
use Rattle.indexmap.specs.IndexMap.{set_value_at}
use Rattle.cfdp_header.specs.declared.value.TransactionId.{TransactionId}
use Rattle.cfdp_header.specs.Ids.{same_id}
use Rattle.cfdp_directives.specs.declared.pdu.addressing.Addressing.{Addressing}
use Rattle.cfdp_directives.specs.declared.user.indication.Indication.{Indication}
use Rattle.cfdp_directives.specs.Pdu.Content.{Content}
use Rattle.cfdp_store.specs.declared.stored.Stored.{Stored}
use Rattle.cfdp_timers.specs.declared.kind.Kind.{Kind}
use Rattle.cfdp_timers.specs.Order.{Timer}
use Rattle.cfdp_sender.specs.declared.phase.SenderPhase.{SenderPhase}
use Rattle.cfdp_sender.specs.declared.phase.SenderPhase.TheVariants as sending
use Rattle.cfdp_sender.specs.declared.transfer.Transfer.{Transfer}
use Rattle.cfdp_sender.specs.State.{transfer_of}
use Rattle.cfdp_sender.specs.Inputs.{finished_count}
use Rattle.cfdp_receiver.specs.declared.state.ReceiverPhase.TheVariants as receiving
use Rattle.cfdp_receiver.specs.Sound.{open_count}
use Rattle.cfdp_entity.specs.declared.request.Request.{Request}
use Rattle.cfdp_entity.specs.Seen.{Seen, Sends, Receives, addressing_of}
use Rattle.cfdp_entity.specs.Steps as steps
use Rattle.cfdp_entity.specs.Table.{Entry, TableState, place_of, record_of, heard_at, expired_at, called_at, taken_at, put_in, opened_by, at_time, all_expired}

-- `stored` and `begun` are how a store answered, `large` is the large file flag of a PDU
pub data TableStep : Type 0 where
  Hears : (stored : Stored) (place : ℕ) (large : Bool) (v : Content) → TableStep
  -- if a record found no memory for a PDU, it is so then
  Spoils : (place : ℕ) (v : Content) (noted : Seen) → TableStep
  Expires : (place : ℕ) (k : Kind) → TableStep
  Calls : (place : ℕ) (c : Request) → TableStep
  Takes : (stored : Stored) (place : ℕ) → TableStep
  Puts : (t : Transfer) → TableStep
  Opens : (begun stored : Stored) (a : Addressing) (large : Bool) (v : Content) → TableStep
  -- the time is given, and these timers fire
  Tells : (now : ℕ) → TableStep
  Fires : (timers : List Timer) → TableStep

abbrev pub table_step : TableStep → TableState → TableState
table_step (Hears stored place large v) st = heard_at stored place large v st
table_step (Spoils place v noted) st =
    record st { records = set_value_at st.records place noted }
table_step (Expires place k) st = expired_at place k st
table_step (Calls place c) st = called_at place c st
table_step (Takes stored place) st = taken_at stored place st
table_step (Puts t) st = put_in t st
table_step (Opens begun stored a large v) st = opened_by begun stored a large v st
table_step (Tells now) st = at_time now st
table_step (Fires timers) st = all_expired timers st

-- Only a transaction without a record gets one, and if there is no memory for a PDU its record
-- is as it may then be.
abbrev pub MayHappen : TableStep → TableState → Type 0
MayHappen (Puts t) st = place_of t.addressing.id st.records ≡ None
MayHappen (Opens begun stored a large v) st = place_of a.id st.records ≡ None
MayHappen (Spoils place v noted) st =
    (e : Entry) → slice_get st.records place ≡ Some e → steps.Spoils v e.1 noted
MayHappen _ st = Unit {0}

-- the table after these steps, one after another
unfoldable pub table_run : List TableStep → TableState → TableState
table_run [] st = st
table_run (s ∷ rest) st = table_run rest (table_step s st)

-- each of them may happen when its turn comes
unfoldable pub MayRun : List TableStep → TableState → Type 0
MayRun [] st = Unit {0}
MayRun (s ∷ rest) st = MayHappen s st × MayRun rest (table_step s st)

-- Steps lead from one table to another; each must be one that may happen when its turn comes.
pub record Leads (old new : TableState) : Type 0 where
  pub steps : List TableStep
  pub may : MayRun steps old
  pub ends : new ≡ table_run steps old

-- ---- records
-- A record becomes another: of the same side and transaction, and closed if it was closed. A sender
-- keeps what it must send.
abbrev pub GoesOn : (old new : Seen) → Type 0
GoesOn (Sends x) (Sends y) =
    (transfer_of y ≡ transfer_of x) × (x.phase ≡ sending.Closed → y.phase ≡ sending.Closed)
GoesOn (Receives r m) (Receives s n) =
    (s.addressing ≡ r.addressing) × (r.phase ≡ receiving.Closed → s.phase ≡ receiving.Closed)
GoesOn _ _ = ⊥

-- Each record is still at its index, under its transaction, and went on.
abbrev pub KeepsRecords : (old new : List Entry) → Type 0
KeepsRecords old new = (place : ℕ) (e : Entry) → slice_get old place ≡ Some e →
    (s : Seen) × ((slice_get new place ≡ Some (e.0, s)) × GoesOn e.1 s)

-- ---- what is indicated
abbrev pub sender_open_count : SenderPhase → ℕ
sender_open_count sending.Sending = 1
sender_open_count sending.Cancelling = 1
sender_open_count sending.Closed = 0

-- 1 if it may still be indicated that the transaction is finished, otherwise 0
abbrev pub open_in : Seen → ℕ
open_in (Sends x) = sender_open_count x.phase
open_in (Receives r m) = open_count r.phase

abbrev pub open_of : Option Seen → ℕ
open_of (Some s) = open_in s
open_of None = 1

-- of a transaction; never again if it was discarded
abbrev pub may_finish : (gone : TransactionId → Bool) → TransactionId → List Entry → ℕ
may_finish gone id records = if gone id then 0 else open_of (record_of id records)

-- A step must open no record of a transaction that was discarded.
abbrev pub OpensOther : (gone : TransactionId → Bool) → TableStep → Type 0
OpensOther gone (Puts t) = gone t.addressing.id ≡ false
OpensOther gone (Opens begun stored a large v) = gone a.id ≡ false
OpensOther gone _ = Unit {0}

-- with one more that was discarded
abbrev pub also : TransactionId → (TransactionId → Bool) → TransactionId → Bool
also id gone other = same_id other id || gone other

-- if none was discarded
abbrev pub none_gone : TransactionId → Bool
none_gone id = false

-- Each record must stand under its transaction, no two under the same, and none under a discarded
-- one. Each transaction is indicated finished at most once, and not yet while it may still be.
pub record FinishesOnce (gone : TransactionId → Bool) (records : List Entry)
    (told : List Indication) : Type 0 where
  pub distinct : IsDistinct same_id (keys_of records)
  pub own : (place : ℕ) (e : Entry) → slice_get records place ≡ Some e
      → (addressing_of e.1).id ≡ e.0
  pub apart : (id : TransactionId) → gone id ≡ true → record_of id records ≡ None
  pub once : (id : TransactionId) → finished_count id told + may_finish gone id records ≤ 1
