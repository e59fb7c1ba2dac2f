-- What a journal is.
use Rattle.std.specs.Prelude.{◌≡◌, ◌++◌, ◌^◌, ◌<◌, ℕ, List, length, map, Err}
use Rattle.std.specs.List.{flat_map, AllByRecursion}
use Rattle.batches.specs.Batch.{AreBatches, FitsBatch, batch, batches_of}
use Rattle.journal_records.specs.declared.fault.BatchFault.{BatchFault}
use Rattle.journal_records.specs.declared.record.JournalRecord.{JournalRecord}
use Rattle.journal_records.specs.Writing.{AreRecords, records_octets}
use Rattle.journal_records.specs.Reading.{records_in}

-- all records of several lists, in order
abbrev pub all_records : List (List JournalRecord) → List JournalRecord
all_records lists = flat_map (λ rs. rs) lists

-- What a batch can have: its text has a length that a batch can say.
pub record FitBatch (rs : List JournalRecord) : Type 0 where
  pub records : AreRecords rs
  pub short : length (records_octets rs) < 2 ^ 64

-- Octets are the batches of these lists of records, one after another, and a tail that begins with
-- no batch, as the front of a batch does that a crash cut off.
pub record IsJournal (bytes : List ℕ) (lists : List (List JournalRecord)) (tail : List ℕ)
    : Type 0 where
  pub batches : AreBatches bytes (map records_octets lists) tail
  pub fit : AllByRecursion FitBatch lists

-- After batches of these lists of records comes a whole batch whose text is no records, with this
-- first fault.
pub record IsFaulty (bytes : List ℕ) (fault : BatchFault) : Type 0 where
  pub lists : List (List JournalRecord)
  pub text : List ℕ
  pub rest : List ℕ
  pub octets : bytes ≡ batches_of (map records_octets lists) ++ (batch text ++ rest)
  pub fit : AllByRecursion FitBatch lists
  pub is_batch : FitsBatch text
  pub faulty : records_in text ≡ Err fault
