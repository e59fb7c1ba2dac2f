-- Steps of a table with other files to send: they are the same, but that it has these files.
use Rattle.std.proofs.Common.{◌≡◌, ℕ, List, [], ◌∷◌, Option, Some, None, Result, Ok, Err, length, slice_get, refl, sym, ap, subst, ◌∙◌}
use Rattle.std.specs.Prelude.{nat_le, true, if◌then◌else◌}
use Rattle.std.specs.FinMap.{get}
use Rattle.std.specs.Option.{option_map, option_or}
use Rattle.cfdp_header.specs.Files.{FileMap}
use Rattle.cfdp_header.specs.declared.value.TransactionId.{TransactionId}
use Rattle.cfdp_directives.specs.Pdu.Codes.{size_limit}
use Rattle.cfdp_store.specs.Calls.{InboxCall}
use Rattle.cfdp_store.specs.declared.stored.Stored.{Stored}
use Rattle.cfdp_store.specs.declared.stored.Stored.TheVariants.{Done, Refused}
use Rattle.cfdp_timers.specs.declared.kind.Kind.{Kind}
use Rattle.cfdp_timers.specs.Order.{Timer}
use Rattle.cfdp_entity.specs.declared.error.PutError.{PutError}
use Rattle.cfdp_entity.specs.declared.error.PutError.TheVariants.{TooLarge}
use Rattle.cfdp_entity.specs.declared.error.RequestError.{RequestError}
use Rattle.cfdp_entity.specs.declared.request.Request.{Request}
use Rattle.cfdp_entity.specs.declared.request.Request.TheVariants as request
use Rattle.cfdp_entity.specs.Entity.{Counted, EntityState, with_table}
use Rattle.cfdp_entity.specs.Forgetting.{Forgets, ForgetsEach, ForgetsSome}
use Rattle.cfdp_entity.specs.Putting.{Accepts, asked, early_refusal, file_refusal, next_transfer, put_refusal, with_put}
use Rattle.cfdp_entity.specs.Refusing.{IsRefusal, refusal_in, asks_in, called_in}
use Rattle.cfdp_entity.specs.Requests.{AnswersRequest, IsCalled, KeepsInbox}
use Rattle.cfdp_entity.specs.Steps.{After, calls, expires}
use Rattle.cfdp_entity.specs.Storing.{AsksToFire, AsksToTick}
use Rattle.cfdp_entity.specs.Table.{Entry, TableState, Ticks, all_expired, at_time, expired, expired_in, place_of, step_of}
use Rattle.cfdp_station.specs.Requests.{StationAnswers}
use Rattle.cfdp_station.specs.Station.{StationState}
use Rattle.shown_sources.specs.Shown.{AreAsLong, counted_sending, entity_sending, station_sending, table_sending}
use Rattle.shown_sources.proofs.Reading.{as_long}

-- ---- a step of a record
pub step_sending : (files : FileMap) (f : Entry → After) (place : ℕ) (o : Option Entry) (st : TableState) → step_of f place o (table_sending files st) ≡ table_sending files (step_of f place o st)
step_sending files f place (Some e) st = refl
step_sending files f place None st = refl

pub step_keeps : (f : Entry → After) (place : ℕ) (o : Option Entry) (st : TableState) → (step_of f place o st).sources ≡ st.sources
step_keeps f place (Some e) st = refl
step_keeps f place None st = refl

-- ---- timers
expired_sending : (files : FileMap) (place : Option ℕ) (k : Kind) (st : TableState) → expired_in place k (table_sending files st) ≡ table_sending files (expired_in place k st)
expired_sending files (Some place) k st = step_sending files (λ (e : Entry). expires st.policy st.files k e.1) place (slice_get st.records place) st
expired_sending files None k st = refl

expired_keeps : (place : Option ℕ) (k : Kind) (st : TableState) → (expired_in place k st).sources ≡ st.sources
expired_keeps (Some place) k st = step_keeps (λ (e : Entry). expires st.policy st.files k e.1) place (slice_get st.records place) st
expired_keeps None k st = refl

fired_sending : (files : FileMap) (timers : List Timer) (st : TableState) → all_expired timers (table_sending files st) ≡ table_sending files (all_expired timers st)
unfolding all_expired
fired_sending files [] st = refl
fired_sending files (t ∷ timers) st = ap (λ (x : TableState). all_expired timers x) (expired_sending files (place_of t.0 st.records) t.1 st) ∙ fired_sending files timers (expired t st)

fired_keeps : (timers : List Timer) (st : TableState) → (all_expired timers st).sources ≡ st.sources
unfolding all_expired
fired_keeps [] st = refl
fired_keeps (t ∷ timers) st = fired_keeps timers (expired t st) ∙ expired_keeps (place_of t.0 st.records) t.1 st

pub ticks_sending : (files : FileMap) (now : ℕ) (old new : TableState) → Ticks now old new → Ticks now (table_sending files old) (table_sending files new)
ticks_sending files now old new t = record {
  fired = t.fired;
  are = t.are;
  ticked = ap (λ (x : TableState). table_sending files x) t.ticked ∙ sym (fired_sending files t.fired (at_time now old));
}

pub ticks_keep : (now : ℕ) (old new : TableState) → Ticks now old new → new.sources ≡ old.sources
ticks_keep now old new t = ap (λ (x : TableState). x.sources) t.ticked ∙ fired_keeps t.fired (at_time now old)

module _ {A : Type 0} (By : List InboxCall → A → A → Type 0) where
  fire_asks : (files : FileMap) (timers : List Timer) (st : TableState) (old new : A) → AsksToFire By timers st old new → AsksToFire By timers (table_sending files st) old new
  unfolding AsksToFire
  fire_asks files [] st old new same = same
  fire_asks files (t ∷ timers) st old new (mid, one, rest) = (
    mid,
    one,
    subst (λ (x : TableState). AsksToFire By timers x mid new) (sym (expired_sending files (place_of t.0 st.records) t.1 st)) (fire_asks files timers (expired t st) mid new rest),
  )

  pub tick_asks : (files : FileMap) (now : ℕ) (st : TableState) (old new : A) → AsksToTick By now st old new → AsksToTick By now (table_sending files st) old new
  tick_asks files now st old new asks = record { fired = asks.fired; are = asks.are; asks = fire_asks files asks.fired (at_time now st) old new asks.asks }

-- ---- requests
refusal_sending : (files : FileMap) (c : Request) (place : Option ℕ) (st : TableState) → refusal_in c place (table_sending files st) ≡ refusal_in c place st
refusal_sending files c (Some place) st = refl
refusal_sending files c None st = refl

asks_sending : (files : FileMap) (c : Request) (place : Option ℕ) (st : TableState) → asks_in c place (table_sending files st) ≡ asks_in c place st
asks_sending files c (Some place) st = refl
asks_sending files c None st = refl

called_sending : (files : FileMap) (c : Request) (place : Option ℕ) (st : TableState) → called_in c place (table_sending files st) ≡ table_sending files (called_in c place st)
called_sending files c (Some place) st = step_sending files (λ (e : Entry). calls st.policy.times st.files c e.1) place (slice_get st.records place) st
called_sending files c None st = refl

called_keeps : (c : Request) (place : Option ℕ) (st : TableState) → (called_in c place st).sources ≡ st.sources
called_keeps c (Some place) st = step_keeps (λ (e : Entry). calls st.policy.times st.files c e.1) place (slice_get st.records place) st
called_keeps c None st = refl

is_called : (files : FileMap) (c : Request) (id : TransactionId) (old new : EntityState) → IsCalled c id old new → IsCalled c id (entity_sending files old) (entity_sending files new)
is_called files c id old new is = record {
  allowed = refusal_sending files c (place_of id old.table.records) old.table ∙ is.allowed;
  called =
      ap (λ (x : EntityState). entity_sending files x) is.called
      ∙ ap (λ (t : TableState). with_table (entity_sending files old) t) (sym (called_sending files c (place_of id old.table.records) old.table));
}

keeps_inbox : (files : FileMap) (c : Request) (id : TransactionId) (old new : Counted) → KeepsInbox c id old new → KeepsInbox c id (counted_sending files old) (counted_sending files new)
keeps_inbox files request.Cancel id old new keeps = λ none. keeps (sym (asks_sending files request.Cancel (place_of id old.state.table.records) old.state.table) ∙ none)
keeps_inbox files request.Suspend id old new keeps = keeps
keeps_inbox files request.Resume id old new keeps = keeps
keeps_inbox files (request.Prompt keep_alive) id old new keeps = keeps

pub request_sending : (files : FileMap) (c : Request) (id : TransactionId) (answer : Result (Unit {0}) RequestError) (old new : Counted) → AnswersRequest c id answer old new →
    AnswersRequest c id answer (counted_sending files old) (counted_sending files new)
request_sending files c id (Ok done) old new a = record {
  called = is_called files c id old.state new.state a.called;
  refused = a.refused;
  err = a.err;
  inbox = keeps_inbox files c id old new a.inbox;
  grows = a.grows;
  raises = a.raises;
  outbox = a.outbox;
}
request_sending files c id (Err by) old new a = record {
  called = a.called;
  refused = subst (λ (r : Option RequestError). IsRefusal r by) (sym (refusal_sending files c (place_of id old.state.table.records) old.state.table)) a.refused;
  err = ap (λ (x : Counted). counted_sending files x) a.err;
  inbox = keeps_inbox files c id old new a.inbox;
  grows = a.grows;
  raises = a.raises;
  outbox = a.outbox;
}

pub request_keeps : (c : Request) (id : TransactionId) (answer : Result (Unit {0}) RequestError) (old new : Counted) → AnswersRequest c id answer old new → new.state.table.sources ≡ old.state.table.sources
request_keeps c id (Ok done) old new a = ap (λ (x : EntityState). x.table.sources) a.called.called ∙ called_keeps c (place_of id old.state.table.records) old.state.table
request_keeps c id (Err by) old new a = ap (λ (x : Counted). x.state.table.sources) a.err

-- ---- puts
abbrev refusal_by_len : Option ℕ → Option PutError
refusal_by_len None = file_refusal None
refusal_by_len (Some len) = if nat_le len (size_limit true) then None else Some TooLarge

by_len : (o : Option (List ℕ)) → file_refusal o ≡ refusal_by_len (option_map length o)
by_len None = refl
by_len (Some octets) = refl

asked_same : (stored : Stored) (o other : Option (List ℕ)) → option_map length other ≡ option_map length o → asked stored other ≡ asked stored o
asked_same Refused o other same = refl
asked_same Done o other same = by_len other ∙ ap refusal_by_len same ∙ sym (by_len o)

pub put_refused_same : (files : FileMap) (stored : Stored) (source destination : List ℕ) (e : EntityState) → AreAsLong e.table.sources files →
    put_refusal stored source destination (entity_sending files e) ≡ put_refusal stored source destination e
put_refused_same files stored source destination e long =
    ap (λ (o : Option PutError). option_or (early_refusal source destination e) o) (asked_same stored (get e.table.sources source) (get files source) (long source))

pub accepts_sending : (files : FileMap) (source destination : List ℕ) (id : TransactionId) (old new : EntityState) → AreAsLong old.table.sources files → Accepts source destination id old new →
    Accepts source destination id (entity_sending files old) (entity_sending files new)
accepts_sending files source destination id old new long a = record {
  fresh = a.fresh;
  unforgotten = a.unforgotten;
  is_next = a.is_next;
  allowed = put_refused_same files Done source destination old long ∙ a.allowed;
  opened =
      ap (λ (x : EntityState). entity_sending files x) a.opened
      ∙ ap (λ (n : ℕ). with_put (next_transfer source destination n old) (entity_sending files old)) (sym (as_long old.table.sources files source long));
}

pub accepts_keeps : (source destination : List ℕ) (id : TransactionId) (old new : EntityState) → Accepts source destination id old new → new.table.sources ≡ old.table.sources
accepts_keeps source destination id old new a = ap (λ (x : EntityState). x.table.sources) a.opened

-- ---- records that are discarded
forgets_sending : (files : FileMap) (id : TransactionId) (old new : EntityState) → Forgets id old new → Forgets id (entity_sending files old) (entity_sending files new)
forgets_sending files id old new f = record { place = f.place; seen = f.seen; at = f.at; allowed = f.allowed; forgot = ap (λ (x : EntityState). entity_sending files x) f.forgot }

each_sending : (files : FileMap) (ids : List TransactionId) (old new : EntityState) → ForgetsEach ids old new → ForgetsEach ids (entity_sending files old) (entity_sending files new)
unfolding ForgetsEach
each_sending files [] old new same = ap (λ (x : EntityState). entity_sending files x) same
each_sending files (id ∷ ids) old new (mid, rest) = (entity_sending files mid, (forgets_sending files id old mid rest.0, each_sending files ids mid new rest.1))

each_keeps : (ids : List TransactionId) (old new : EntityState) → ForgetsEach ids old new → new.table.sources ≡ old.table.sources
unfolding ForgetsEach
each_keeps [] old new same = ap (λ (x : EntityState). x.table.sources) same
each_keeps (id ∷ ids) old new (mid, rest) = each_keeps ids mid new rest.1 ∙ ap (λ (x : EntityState). x.table.sources) rest.0.forgot

pub some_sending : (files : FileMap) (old new : EntityState) → ForgetsSome old new → ForgetsSome (entity_sending files old) (entity_sending files new)
some_sending files old new f = record { ids = f.ids; forgets = each_sending files f.ids old new f.forgets }

pub some_keeps : (old new : EntityState) → ForgetsSome old new → new.table.sources ≡ old.table.sources
some_keeps old new f = each_keeps f.ids old new f.forgets

-- ---- requests of a station
pub station_answers : (files : FileMap) (c : Request) (id : TransactionId) (answer : Result (Unit {0}) RequestError) (old new : StationState) → StationAnswers c id answer old new →
    StationAnswers c id answer (station_sending files old) (station_sending files new)
station_answers files c id (Ok done) old new a = record { entity = request_sending files c id (Ok done) old.entity new.entity a.entity; err = a.err; link = a.link }
station_answers files c id (Err by) old new a = record {
  entity = request_sending files c id (Err by) old.entity new.entity a.entity;
  err = ap (λ (x : StationState). station_sending files x) a.err;
  link = a.link;
}

pub station_keeps : (c : Request) (id : TransactionId) (answer : Result (Unit {0}) RequestError) (old new : StationState) → StationAnswers c id answer old new →
    new.entity.state.table.sources ≡ old.entity.state.table.sources
station_keeps c id answer old new a = request_keeps c id answer old.entity new.entity a.entity
