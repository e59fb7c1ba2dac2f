-- What is discarded: records, to make room for others, if they are closed and have nothing due;
-- and received files.
use Rattle.std.specs.Prelude.{◌≡◌, ℕ, ◌-◌, nat_lt, not, Bool, true, false, List, [], ◌∷◌, Option, Some, None, remove, slice_get, if◌then◌else◌}
use Rattle.std.specs.FinMap as map
use Rattle.std.specs.FinSet as set
use Rattle.cfdp_header.specs.Files.{FileMap}
use Rattle.cfdp_header.specs.declared.value.TransactionId.{TransactionId}
use Rattle.cfdp_directives.specs.declared.user.phase.Phase.{Phase}
use Rattle.cfdp_directives.specs.declared.user.phase.Phase.TheVariants as phases
use Rattle.cfdp_timers.specs.Armed.{cleared}
use Rattle.cfdp_entity.specs.declared.error.ForgetError.{ForgetError}
use Rattle.cfdp_entity.specs.declared.error.ForgetError.TheVariants.{Unknown, StillOpen, AnswerDue, NoMemory}
use Rattle.cfdp_entity.specs.Entity.{EntityState}
use Rattle.cfdp_entity.specs.Seen.{Seen, is_due, phase_of}
use Rattle.cfdp_entity.specs.Table.{Entry, TableState, place_of}

-- ---- which records may be discarded
abbrev pub is_closed : Phase → Bool
is_closed phases.Closed = true
is_closed _ = false

-- why a record can't be discarded, if it can't
abbrev pub refusal : Seen → Option ForgetError
refusal s =
    if not (is_closed (phase_of s)) then Some StillOpen
    else if is_due s then Some AnswerDue
    else None

-- why a transaction's record can't be discarded, if it can't; it may have none
abbrev pub refusal_of : Option Entry → Option ForgetError
refusal_of (Some e) = refusal e.1
refusal_of None = Some Unknown

abbrev pub refusal_in : Option ℕ → TableState → Option ForgetError
refusal_in (Some place) st = refusal_of (slice_get st.records place)
refusal_in None st = Some Unknown

abbrev pub forget_refusal : TransactionId → TableState → Option ForgetError
forget_refusal id st = refusal_in (place_of id st.records) st

-- the transaction of a record, if that may be discarded
abbrev pub unless_refused : Option ForgetError → TransactionId → Option TransactionId
unless_refused None id = Some id
unless_refused (Some by) id = None

abbrev pub over_in : Option Entry → Option TransactionId
over_in (Some e) = unless_refused (refusal e.1) e.0
over_in None = None

-- No record is left that may be discarded.
abbrev pub HasNoneOver : TableState → Type 0
HasNoneOver st = (place : ℕ) → over_in (slice_get st.records place) ≡ None

-- If a record isn't discarded, this is the cause, or there is no memory.
abbrev pub IsForgetRefusal : Option ForgetError → ForgetError → Type 0
IsForgetRefusal (Some e) by = by ≡ e
IsForgetRefusal None by = by ≡ NoMemory

-- ---- what is left
-- those after it move up, and no timer of its transaction is armed
abbrev pub left_at : ℕ → TransactionId → TableState → TableState
left_at place id st = record st {
  records = remove st.records place;
  armed = cleared st.armed id;
}

-- the index of a record after another one is taken out
abbrev pub moved : (out place : ℕ) → ℕ
moved out place = if nat_lt out place then place - 1 else place

abbrev pub without_record : ℕ → TransactionId → EntityState → EntityState
without_record place id e = record e {
  table = left_at place id e.table;
  cursor = moved place e.cursor;
  forgotten = set.insert e.forgotten id;
}

-- The record of a transaction was discarded: its transaction is known to be over.
pub record Forgets (id : TransactionId) (old new : EntityState) : Type 0 where
  pub place : ℕ
  pub seen : Seen
  pub at : slice_get old.table.records place ≡ Some (id, seen)
  pub allowed : refusal seen ≡ None
  pub forgot : new ≡ without_record place id old

-- The records of these transactions were discarded, one after another.
unfoldable pub ForgetsEach : List TransactionId → (old new : EntityState) → Type 0
ForgetsEach [] old new = new ≡ old
ForgetsEach (id ∷ ids) old new = (mid : EntityState) × (Forgets id old mid × ForgetsEach ids mid new)

pub record ForgetsSome (old new : EntityState) : Type 0 where
  pub ids : List TransactionId
  pub forgets : ForgetsEach ids old new

-- The record at an index was discarded, as it may be, and nothing else changed.
pub record GoesAt (place : ℕ) (id : TransactionId) (old new : EntityState) : Type 0 where
  pub forgets : Forgets id old new
  pub records : new.table.records ≡ remove old.table.records place

abbrev pub GoesIfOver : Option TransactionId → ℕ → (old new : EntityState) → Type 0
GoesIfOver (Some id) place old new = GoesAt place id old new
GoesIfOver None place old new = new ≡ old

-- ---- received files
-- a table whose inbox has these files
abbrev pub with_files : FileMap → TableState → TableState
with_files files st = record st { files = files }

-- the file of this name is gone from the inbox; all else stays
abbrev pub without_file : (name : List ℕ) → TableState → TableState
without_file name st = with_files (map.remove st.files name) st
