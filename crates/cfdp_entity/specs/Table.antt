-- A table of records with their timers: which one is served next, and one step of one record.
use Rattle.std.specs.Prelude.{◌≡◌, ℕ, ◌+◌, ◌-◌, ◌^◌, nat_lt, min, Bool, true, false, List, [], ◌∷◌, ◌++◌, drop, length, position, slice_get, max, Option, Some, None, if◌then◌else◌}
use Rattle.std.specs.Option.{option_or, option_map}
use Rattle.std.specs.Map.{lookup}
use Rattle.std.specs.FinMap as finmap
use Rattle.indexmap.specs.IndexMap.{set_value_at}
use Rattle.cfdp_header.specs.declared.value.TransactionId.{TransactionId}
use Rattle.cfdp_header.specs.Ids.{same_id}
use Rattle.cfdp_header.specs.Files.{FileMap}
use Rattle.cfdp_directives.specs.declared.pdu.addressing.Addressing.{Addressing}
use Rattle.cfdp_directives.specs.declared.user.indication.Indication.{Indication}
use Rattle.cfdp_directives.specs.declared.user.phase.Phase.{Phase}
use Rattle.cfdp_directives.specs.declared.user.policy.Policy.{Policy}
use Rattle.cfdp_directives.specs.Pdu.Content.{Content}
use Rattle.cfdp_store.specs.Rereading.{RereadsIf}
use Rattle.cfdp_store.specs.declared.stored.Stored.{Stored}
use Rattle.cfdp_timers.specs.declared.kind.Kind.{Kind}
use Rattle.cfdp_timers.specs.Order.{Timer}
use Rattle.cfdp_timers.specs.Armed.{Armed}
use Rattle.cfdp_timers.specs.Due.{AreDue, still_armed}
use Rattle.cfdp_sender.specs.declared.transfer.Transfer.{Transfer}
use Rattle.cfdp_entity.specs.declared.request.Request.{Request}
use Rattle.cfdp_entity.specs.Seen.{Seen, is_due, due_octets, due_len, carries_data, phase_of, progress_of}
use Rattle.cfdp_entity.specs.Steps.{After, with_waits, hears, expires, calls, takes, Spoils}
use Rattle.cfdp_entity.specs.Opening.{puts, opens}

abbrev pub Entry : Type 0
Entry = TransactionId × Seen

-- the records in order of opening, the latest time given, the armed timers, what was indicated,
-- how many of that were discarded, the published files, the files of the outbox, if these stood
-- still so far, and how long and how often answers are waited for
pub record TableState : Type 0 where
  pub records : List Entry
  pub now : ℕ
  pub armed : Armed
  pub told : List Indication
  pub gone : ℕ
  pub files : FileMap
  pub sources : FileMap
  pub stands : Bool
  pub policy : Policy

-- the most records of a table, closed ones included
abbrev pub most_records : ℕ
most_records = 4096

-- ---- where a record is, and which one is served next
abbrev pub place_of : TransactionId → List Entry → Option ℕ
place_of id records = position (λ e. same_id id e.0) records

-- the record of a transaction, if there is one
abbrev pub record_of : TransactionId → List Entry → Option Seen
record_of id records = lookup (same_id id) records

abbrev pub has_due : Entry → Bool
has_due e = is_due e.1

-- the index of the first record from one on that has something due, otherwise of the first of
-- all
abbrev pub next_due : ℕ → List Entry → Option ℕ
next_due from records =
    option_or (option_map (λ i. from + i) (position has_due (drop from records)))
    (position has_due records)

abbrev pub octets_due : FileMap → Option Entry → List ℕ
octets_due sources None = []
octets_due sources (Some e) = due_octets sources e.1

abbrev pub len_due : FileMap → Option Entry → ℕ
len_due sources None = 0
len_due sources (Some e) = due_len sources e.1

-- the octets of the PDU that the record at an index has due, and how many they are
abbrev pub due_at : ℕ → TableState → List ℕ
due_at place st = octets_due st.sources (slice_get st.records place)

abbrev pub len_at : ℕ → TableState → ℕ
len_at place st = len_due st.sources (slice_get st.records place)

abbrev pub data_due : Option Entry → Bool
data_due None = false
data_due (Some e) = carries_data e.1

-- `true` if that PDU carries octets of a file
abbrev pub data_at : ℕ → TableState → Bool
data_at place st = data_due (slice_get st.records place)

abbrev pub phase_in : Option Entry → Option Phase
phase_in (Some e) = Some (phase_of e.1)
phase_in None = None

abbrev pub progress_in : Option Entry → Option ℕ
progress_in (Some e) = Some (progress_of e.1)
progress_in None = None

-- ---- one step of the record at an index; no other record changes
abbrev pub stepped : ℕ → TransactionId → After → TableState → TableState
stepped place id after st = record st {
  records = set_value_at st.records place after.seen;
  armed = with_waits st.now id after.waits st.armed;
  told = st.told ++ after.told;
  files = after.files;
}

-- the table after a step of the record at an index, if one is there
abbrev pub step_of : (Entry → After) → ℕ → Option Entry → TableState → TableState
step_of f place None st = st
step_of f place (Some e) st = stepped place e.0 (f e) st

abbrev pub step_at : (Entry → After) → ℕ → TableState → TableState
step_at f place st = step_of f place (slice_get st.records place) st

abbrev pub heard_at : Stored → ℕ → (large : Bool) → Content → TableState → TableState
heard_at stored place large v st =
    step_at (λ e. hears stored st.policy.times st.files large v e.1) place st

abbrev pub expired_at : ℕ → Kind → TableState → TableState
expired_at place k st = step_at (λ e. expires st.policy st.files k e.1) place st

abbrev pub called_at : ℕ → Request → TableState → TableState
called_at place c st = step_at (λ e. calls st.policy.times st.files c e.1) place st

abbrev pub taken_at : Stored → ℕ → TableState → TableState
taken_at stored place st =
    step_at (λ e. takes stored st.policy.times st.sources st.files e.1) place st

-- ---- a new record, after all others
abbrev pub with_record : TransactionId → After → TableState → TableState
with_record id after st = record st {
  records = st.records ++ (id, after.seen) ∷ [];
  armed = with_waits st.now id after.waits st.armed;
  told = st.told ++ after.told;
  files = after.files;
}

abbrev pub put_in : Transfer → TableState → TableState
put_in t st = with_record t.addressing.id (puts st.files t) st

-- a PDU of no record opens one; `begun` and `stored` are the answers of the inbox
abbrev pub opened_by : (begun stored : Stored) → Addressing → (large : Bool) → Content →
    TableState → TableState
opened_by begun stored a large v st =
    with_record a.id (opens begun stored st.policy.times st.files large v a) st

abbrev pub first_table : FileMap → FileMap → Policy → TableState
first_table sources files policy = record {
  records = [];
  now = 0;
  armed = finmap.empty;
  told = [];
  gone = 0;
  files = files;
  sources = sources;
  stands = true;
  policy = policy;
}

-- the table if the files of its outbox stand, or if they don't
abbrev pub standing : Bool → TableState → TableState
standing stands st = record st { stands = stands }

-- the table before a step that may read a file, except that the outbox has what it has afterwards:
-- its files as they were when they were read
abbrev pub table_lent : (now old : TableState) → TableState
table_lent now old = record old { sources = now.sources; stands = now.stands }

-- the table whose outbox such a step has shown, if it read file data
abbrev pub ShowsIf : (reads : Bool) → (old new : TableState) → Type 0
ShowsIf reads old new = RereadsIf reads old.stands new.stands old.sources new.sources

-- ---- timers that fired
abbrev pub expired_in : Option ℕ → Kind → TableState → TableState
expired_in None k st = st
expired_in (Some place) k st = expired_at place k st

-- the timer of a transaction fired: one step of its record
abbrev pub expired : Timer → TableState → TableState
expired t st = expired_in (place_of t.0 st.records) t.1 st

-- these timers fired, one after another: each step finds what the earlier ones left
unfoldable pub all_expired : List Timer → TableState → TableState
all_expired [] st = st
all_expired (t ∷ timers) st = all_expired timers (expired t st)

abbrev pub at_time : ℕ → TableState → TableState
at_time now st = record st { now = max st.now now; armed = still_armed (max st.now now) st.armed }

-- The time was given: of the timers that were armed, those that are due have fired in their order,
-- each once, and nothing else changed. If such a step arms a timer, it isn't among them.
pub record Ticks (now : ℕ) (old new : TableState) : Type 0 where
  pub fired : List Timer
  pub are : AreDue old.armed (max old.now now) fired
  pub ticked : new ≡ all_expired fired (at_time now old)

-- ---- indications that are discarded
-- how many are discarded once so many more of those that are left are: as far as 64 bits count
abbrev pub gone_after : ℕ → TableState → ℕ
gone_after count st =
    let gone = st.gone + min count (length st.told - st.gone) in
    if nat_lt gone (2 ^ 64) then gone else st.gone

abbrev pub without_told : ℕ → TableState → TableState
without_told count st = record st { gone = gone_after count st }

-- the first one that is left, if it can still be counted once it is discarded
abbrev pub next_told : TableState → Option Indication
next_told st = if nat_lt (st.gone + 1) (2 ^ 64) then slice_get st.told st.gone else None

-- ---- out of memory
-- if a record at an index found no memory for a PDU, nothing else changed
pub record SpoiledAt (place : ℕ) (v : Content) (old new : TableState) : Type 0 where
  pub seen : Seen
  pub spoils : (e : Entry) → slice_get old.records place ≡ Some e → Spoils v e.1 seen
  pub table : new ≡ record old { records = set_value_at old.records place seen }
