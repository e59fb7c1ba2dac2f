-- An entity after a restart, and what it was when its station was killed.
use Rattle.std.specs.Prelude.{◌≡◌, ◌⊎◌, ◌<◌, ◌≤◌, ℕ, true, List, [], ◌∷◌, Some, None, slice_get}
use Rattle.std.specs.List.{IsDistinct}
use Rattle.std.specs.Map.{keys_of}
use Rattle.cfdp_header.specs.declared.value.TransactionId.{TransactionId}
use Rattle.cfdp_header.specs.Ids.{same_id}
use Rattle.cfdp_header.specs.Files.{FileMap}
use Rattle.cfdp_directives.specs.User.Completions.{completions}
use Rattle.cfdp_store.specs.Files.{octets_in}
use Rattle.cfdp_sender.specs.Inputs.{finished_count}
use Rattle.cfdp_entity.specs.Config.{IsConfig}
use Rattle.cfdp_entity.specs.Entity.{EntityState, is_forgotten}
use Rattle.cfdp_entity.specs.History.{may_finish}
use Rattle.cfdp_entity.specs.Seen.{Seen, Sends, Receives}
use Rattle.cfdp_entity.specs.Table.{Entry, record_of}
use Rattle.cfdp_entity.specs.Telling.{WasIndicated}
use Rattle.cfdp_entity.specs.Timed.{AreTimed}
use Rattle.cfdp_resuming.specs.Receiver.{IsRestoredReceiver}
use Rattle.cfdp_resuming.specs.Sender.{IsRestoredSender}

-- The second list is the first one, from which some elements may be left out.
abbrev pub AreSomeOf : {A : Type 0} → (all some : List A) → Type 0
AreSomeOf [] some = some ≡ []
AreSomeOf (x ∷ all) some =
    AreSomeOf all some ⊎ ((rest : List _) × (some ≡ x ∷ rest) × AreSomeOf all rest)

-- A record is restored as one of the same side.
abbrev pub IsRestored : FileMap → (old new : Seen) → Type 0
IsRestored sources (Sends x) (Sends s) = IsRestoredSender (octets_in sources x.source) x s
IsRestored sources (Receives r m) (Receives s n) = IsRestoredReceiver r m s n
IsRestored sources _ _ = ⊥

-- A record that is restored: its transaction must have had one when the station was killed.
pub record ComesBack (sources : FileMap) (records : List Entry) (e : Entry) : Type 0 where
  pub place : ℕ
  pub before : Seen
  pub was : slice_get records place ≡ Some (e.0, before)
  pub restored : IsRestored sources before e.1

-- An entity was `old` when its station was killed, and resumes as `new`. It is the same entity with
-- the same peer, files to send and inbox; other settings may change. Each of its records is
-- restored. No two records may be of one transaction, and none of a forgotten one; a record may be
-- missing. The list of indications, which only proofs see, may lose some: but no completion of a
-- file that it received, and not the end of a receiver that is restored with its outcome. No
-- transaction that may still be indicated finished was indicated so before. The timers that are
-- armed are those that records wait for, and the numbers of puts go on.
pub record IsResumed (old new : EntityState) : Type 0 where
  pub valid : IsConfig new.config
  pub own : new.config.entity ≡ old.config.entity
  pub peer : new.config.peer ≡ old.config.peer
  pub policy : new.table.policy ≡ new.config.policy
  pub next : old.next ≤ new.next
  pub sources : new.table.sources ≡ old.table.sources
  pub files : new.table.files ≡ old.table.files
  pub records : (place : ℕ) (e : Entry) → slice_get new.table.records place ≡ Some e
      → ComesBack old.table.sources old.table.records e
  pub distinct : IsDistinct same_id (keys_of new.table.records)
  pub apart : (id : TransactionId) → is_forgotten new id ≡ true
      → record_of id new.table.records ≡ None
  pub told : AreSomeOf old.table.told new.table.told
  pub published : completions old.config.entity new.table.told
      ≡ completions old.config.entity old.table.told
  pub ended : (place : ℕ) (e : Entry) → slice_get new.table.records place ≡ Some e
      → WasIndicated new.table.told e.1
  pub unended : (id : TransactionId) → 0 < may_finish (is_forgotten new) id new.table.records
      → finished_count id new.table.told ≡ 0
  pub timed : AreTimed new.table
