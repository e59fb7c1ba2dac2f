-- What a survey has of each transaction.
use Rattle.std.specs.Prelude.{◌≡◌, ℕ, Bool, List, [], ◌∷◌, ◌++◌, length, map, Option, None, Some, if◌then◌else◌}
use Rattle.std.specs.Option.{option_map, option_or}
use Rattle.cfdp_header.specs.declared.value.TransactionId.{TransactionId}
use Rattle.cfdp_header.specs.Ids.{same_id}
use Rattle.journal_records.specs.declared.record.JournalRecord.{JournalRecord}
use Rattle.journal_records.specs.declared.record.JournalRecord.TheVariants.{Station}
use Rattle.journal_records.specs.declared.record.Owner.{Owner}
use Rattle.transfer_journal.specs.declared.kept.KeptEnd.{KeptEnd}
use Rattle.transfer_journal.specs.declared.kept.KeptTransfer.{KeptTransfer}
use Rattle.transfer_journal.specs.declared.survey.ForgottenRange.{ForgottenRange}
use Rattle.transfer_journal.specs.declared.survey.Survey.{Survey}
use Rattle.transfer_journal.specs.Says.{Known, forgotten_by, is_in, said_of, says}

-- what is known of a transaction, if these are known, each with its slot
abbrev pub slot_of : TransactionId → List TransactionId → List (Option KeptTransfer) → Known
slot_of id (k ∷ ks) (slot ∷ slots) = if same_id id k then Some slot else slot_of id ks slots
slot_of id _ _ = None

-- what a survey knows of a transaction
abbrev pub known_of : TransactionId → Survey → Known
known_of id survey = slot_of id survey.ids.keys survey.transfers.items

-- whose journal a record says it is, and all of them: the last one counts
abbrev pub owner_in : JournalRecord → Option Owner
owner_in (Station owner) = Some owner
owner_in _ = None

abbrev pub owner_after : Option Owner → List JournalRecord → Option Owner
owner_after owner [] = owner
owner_after owner (r ∷ rs) = owner_after (option_or (owner_in r) owner) rs

-- the ranges of numbers that a record says are forgotten
abbrev pub range_of : ℕ → ℕ × ℕ → ForgottenRange
range_of source r = record { source = source; start = r.0; end = r.1 }

abbrev pub ranges_of : Option (ℕ × List (ℕ × ℕ)) → List ForgottenRange
ranges_of None = []
ranges_of (Some those) = map (range_of those.0) those.1

abbrev pub ranges_by : JournalRecord → List ForgottenRange
ranges_by r = ranges_of (forgotten_by r)

-- Proof-only: each transaction has a slot.
abbrev pub IsAligned : Survey → Type 0
IsAligned survey = length survey.transfers.items ≡ length survey.ids.keys

-- Proof-only: slots, of which those of some transactions are `None`
abbrev pub with_none : (TransactionId → Bool) → List TransactionId → List (Option KeptTransfer) →
    List (Option KeptTransfer)
with_none drops (k ∷ ks) (slot ∷ slots) =
    (if drops k then None else slot) ∷ with_none drops ks slots
with_none drops _ slots = slots

-- Proof-only: a record about a transaction was taken.
pub record Hears (id : TransactionId) (r : JournalRecord) (old new : Survey) : Type 0 where
  pub aligned : IsAligned new
  pub addressing : new.addressing ≡ old.addressing
  pub owner : new.owner ≡ old.owner
  pub forgotten : new.forgotten.items ≡ old.forgotten.items
  pub known : (other : TransactionId) → known_of other new
      ≡ (if same_id other id then said_of old.addressing other r (known_of other old)
      else known_of other old)

-- Proof-only: a transaction was added after all others.
pub record Adds (id : TransactionId) (side : KeptEnd) (old new : Survey) : Type 0 where
  pub ids : new.ids.keys ≡ old.ids.keys ++ id ∷ []
  pub transfers : new.transfers.items ≡ old.transfers.items
      ++ Some (record { id = id; end = side; pending = None }) ∷ []
  pub addressing : new.addressing ≡ old.addressing
  pub owner : new.owner ≡ old.owner
  pub forgotten : new.forgotten.items ≡ old.forgotten.items

-- Proof-only: the transactions of a source with numbers in these ranges were forgotten.
pub record Forgets (source : ℕ) (ranges : List (ℕ × ℕ)) (old new : Survey) : Type 0 where
  pub aligned : IsAligned new
  pub addressing : new.addressing ≡ old.addressing
  pub owner : new.owner ≡ old.owner
  pub forgotten : new.forgotten.items ≡ old.forgotten.items ++ map (range_of source) ranges
  pub known : (id : TransactionId) → known_of id new
      ≡ (if is_in source ranges id then option_map (λ slot. None) (known_of id old)
      else known_of id old)

-- Proof-only: a record was taken.
pub record Takes (r : JournalRecord) (old new : Survey) : Type 0 where
  pub aligned : IsAligned new
  pub addressing : new.addressing ≡ old.addressing
  pub owner : new.owner ≡ option_or (owner_in r) old.owner
  pub forgotten : new.forgotten.items ≡ old.forgotten.items ++ ranges_by r
  pub known : (id : TransactionId) → known_of id new ≡ says old.addressing id r (known_of id old)
