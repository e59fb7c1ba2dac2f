-- What was read of a file may differ from what it had: all records stay ready, and no PDU is longer.
use Rattle.std.proofs.Common.{◌≡◌, ℕ, ◌-◌, Bool, List, [], ◌∷◌, length, drop, slice_get, Option, Some, None, refl, ap, arith}
use Rattle.std.proofs.lemmas.List.{length-take, length-drop}
use Rattle.std.specs.FinSet as set
use Rattle.cfdp_header.specs.declared.value.TransactionId.{TransactionId}
use Rattle.cfdp_header.specs.Files.{FileMap}
use Rattle.cfdp_header.specs.Ids.{id_cmp}
use Rattle.cfdp_directives.specs.Pdu.Codes.{is_large}
use Rattle.cfdp_directives.specs.Pdu.Addressing.{written_len}
use Rattle.cfdp_store.specs.Files.{octets_in}
use Rattle.cfdp_store.specs.Rereading.{RereadsIf}
use Rattle.cfdp_sender.specs.State.{SenderState}
use Rattle.cfdp_sender.specs.Due.{sender_due, sender_says, carried}
use Rattle.cfdp_sender.specs.declared.due.SenderDue.{SenderDue}
use Rattle.cfdp_sender.specs.declared.due.SenderDue.TheVariants as due
use Rattle.cfdp_sender.proofs.Dues.{says-len}
use Rattle.cfdp_sender.proofs.OwnFile.{while-reread_if, octets-reread}
use Rattle.cfdp_entity.specs.declared.record.Record.{Record}
use Rattle.cfdp_entity.specs.declared.record.Record.TheVariants as held
use Rattle.cfdp_entity.specs.Desk.{Staged, DeskState, desk_lent}
use Rattle.cfdp_entity.specs.Entity.{Counted, EntityState, counted_lent, entity_lent}
use Rattle.cfdp_entity.specs.declared.polled.Rooms.{Rooms}
use Rattle.cfdp_entity.specs.Polling.{Turn, Stray, Place, Rests, turn, turn_data, turn_len, turn_room, room_in}
use Rattle.cfdp_entity.specs.Seen.{Seen, Sends, Receives, sender_content, len_of, due_len}
use Rattle.cfdp_entity.specs.Table.{Entry, TableState, len_due, len_at, table_lent, ShowsIf}
use Rattle.cfdp_entity.specs.Whole.{AllReady, IsReadyRecord, IsWhole, MayStep, id_of}

-- ---- records stay ready
module _ (reads stand stand_now : Bool) (sources now : FileMap) (shows : RereadsIf reads stand stand_now sources now) where
  record-lent : (staged : Staged) (id : TransactionId) (r : Record) → IsReadyRecord staged sources id r → IsReadyRecord staged now id r
  unfolding IsReadyRecord
  record-lent staged id (held.Sends x) ready = (ready.0, while-reread_if reads stand stand_now sources now x.phase x.source x.size shows ready.1)
  record-lent staged id (held.Receives r) ready = ready

  ready-lent : (staged : Staged) (roomy : set.FinSet id_cmp) (es : List (TransactionId × Record)) → AllReady staged sources roomy es → AllReady staged now roomy es
  unfolding AllReady
  ready-lent staged roomy [] all = tt
  ready-lent staged roomy (e ∷ es) all = (record-lent staged e.0 e.1 all.0, all.1, ready-lent staged roomy es all.2)

pub whole-lent : (reads : Bool) (old new : DeskState) (es : List (TransactionId × Record)) (flags : List Bool) → RereadsIf reads old.stands new.stands old.sources new.sources → IsWhole old es flags →
    IsWhole (desk_lent new old) es flags
whole-lent reads old new es flags shows whole = record {
  distinct = whole.distinct;
  ready = ready-lent reads old.stands new.stands old.sources new.sources shows old.staged old.effects.timers.roomy es whole.ready;
  flagged = whole.flagged;
  few = whole.few;
}

pub may-lent : (reads : Bool) (old new : DeskState) (r : Record) → RereadsIf reads old.stands new.stands old.sources new.sources → MayStep r old → MayStep r (desk_lent new old)
may-lent reads old new r shows may = record { ready = record-lent reads old.stands new.stands old.sources new.sources shows old.staged (id_of r) r may.ready; room = may.room }

-- ---- what is due is as long
carried-same : (file other : List ℕ) (d : SenderDue) → length other ≡ length file → length (carried other d) ≡ length (carried file d)
carried-same file other (due.AskedData start end) same =
    omega (arith, same, length-take (end - start) (drop start file), length-drop start file, length-take (end - start) (drop start other), length-drop start other)
carried-same file other (due.NewData start end) same =
    omega (arith, same, length-take (end - start) (drop start file), length-drop start file, length-take (end - start) (drop start other), length-drop start other)
carried-same file other (due.AckOfFinished condition) same = refl
carried-same file other (due.Prompt keep_alive) same = refl
carried-same file other due.Metadata same = refl
carried-same file other due.Eof same = refl

says-same : (x : SenderState) (d : SenderDue) (file other : List ℕ) → length other ≡ length file →
    written_len x.addressing (is_large x.size) (sender_says other x d) ≡ written_len x.addressing (is_large x.size) (sender_says file x d)
says-same x d file other same = omega (arith, says-len x d file, says-len x d other, carried-same file other d same)

content-same : (x : SenderState) (file other : List ℕ) → length other ≡ length file → (o : Option SenderDue) →
    len_of (is_large x.size) x.addressing (sender_content other x o) ≡ len_of (is_large x.size) x.addressing (sender_content file x o)
content-same x file other same (Some d) = says-same x d file other same
content-same x file other same None = refl

entry-same : (reads stand stand_now : Bool) (sources now : FileMap) → RereadsIf reads stand stand_now sources now → (o : Option Entry) → len_due now o ≡ len_due sources o
entry-same reads stand stand_now sources now shows None = refl
entry-same reads stand stand_now sources now shows (Some e) = by e.1
  where
    by : (s : Seen) → due_len now s ≡ due_len sources s
    by (Sends x) = content-same x (octets_in sources x.source) (octets_in now x.source) (octets-reread reads stand stand_now sources now x.source shows) (sender_due x)
    by (Receives r m) = refl

pub len-lent : (reads : Bool) (place : ℕ) (old new : TableState) → ShowsIf reads old new → len_at place (table_lent new old) ≡ len_at place old
len-lent reads place old new shows = entry-same reads old.stands new.stands old.sources new.sources shows (slice_get old.records place)

-- ---- nor does the room for it change
pub data-lent : (t : Turn) (new old : EntityState) → turn_data t (entity_lent new old) ≡ turn_data t old
data-lent (Stray s strays) new old = refl
data-lent (Place place) new old = refl
data-lent Rests new old = refl

pub room-lent : (rooms : Rooms) (new old : EntityState) → turn_room rooms (entity_lent new old) ≡ turn_room rooms old
room-lent rooms new old = ap (room_in rooms) (data-lent (turn old) new old)

turn-len : (t : Turn) (reads : Bool) (old new : EntityState) → ShowsIf reads old.table new.table → turn_len t (entity_lent new old) ≡ turn_len t old
turn-len (Stray s strays) reads old new shows = refl
turn-len (Place place) reads old new shows = len-lent reads place old.table new.table shows
turn-len Rests reads old new shows = refl

pub turn-len-lent : (reads : Bool) (old new : EntityState) → ShowsIf reads old.table new.table → turn_len (turn old) (entity_lent new old) ≡ turn_len (turn old) old
turn-len-lent reads old new shows = turn-len (turn old) reads old new shows

-- ---- if the table stays, nothing was read
pub same-lent : (old new : Counted) → new.state.table ≡ old.state.table → counted_lent new old ≡ old
same-lent old new same = λ i. record old { state = record old.state { table = record old.state.table { sources = (same i).sources; stands = (same i).stands } } }
