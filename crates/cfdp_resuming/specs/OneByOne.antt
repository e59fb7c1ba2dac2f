-- An entity on which the records of another one are restored, one by one.
use Rattle.std.specs.Prelude.{◌≡◌, ◌⊎◌, ◌≤◌, ◌<◌, ℕ, true, List, [], ◌∷◌, Some, slice_get}
use Rattle.std.specs.FinMap as map
use Rattle.std.specs.FinSet as set
use Rattle.cfdp_header.specs.declared.value.TransactionId.{TransactionId}
use Rattle.cfdp_directives.specs.declared.user.indication.Indication.{Indication}
use Rattle.cfdp_directives.specs.User.Completions.{completions}
use Rattle.cfdp_extents.specs.Offsets.{Offsets}
use Rattle.cfdp_sender.specs.Back as sender_back
use Rattle.cfdp_sender.specs.Inputs.{finished_count}
use Rattle.cfdp_receiver.specs.Back as receiver_back
use Rattle.cfdp_receiver.specs.declared.state.ReceiverPhase.TheVariants.{Receiving}
use Rattle.cfdp_entity.specs.Config.{IsConfig}
use Rattle.cfdp_entity.specs.Entity.{EntityState, is_forgotten}
use Rattle.cfdp_entity.specs.History.{may_finish}
use Rattle.cfdp_entity.specs.Restoring.{RestoresReceiver, RestoresSender}
use Rattle.cfdp_entity.specs.Seen.{Seen, Sends, Receives}
use Rattle.cfdp_entity.specs.Table.{Entry, ShowsIf}
use Rattle.cfdp_entity.specs.Telling.{WasIndicated}
use Rattle.cfdp_resuming.specs.Entity.{AreSomeOf}

-- ---- what was indicated
-- Of what the entity `old` indicated, this is left: no completion of a file that it received is
-- missing, and not the end of a receiver that has a record. If a transaction may still be indicated
-- finished, it wasn't indicated so.
pub record IsLeftOf (old : EntityState) (told : List Indication) : Type 0 where
  pub some : AreSomeOf old.table.told told
  pub published : completions old.config.entity told
      ≡ completions old.config.entity old.table.told
  pub ended : (place : ℕ) (e : Entry) → slice_get old.table.records place ≡ Some e
      → WasIndicated told e.1
  pub unended : (id : TransactionId) → 0 < may_finish (is_forgotten old) id old.table.records
      → finished_count id told ≡ 0

-- ---- from the beginning
-- An entity has no records yet, and was `old` when its station was killed. It is the same entity
-- with the same peer, and the files to send and the inbox are the same. It has forgotten what `old`
-- had forgotten, at least, and its puts are numbered after those of `old`.
pub record BeginsAs (old begun : EntityState) : Type 0 where
  pub valid : IsConfig begun.config
  pub own : begun.config.entity ≡ old.config.entity
  pub peer : begun.config.peer ≡ old.config.peer
  pub policy : begun.table.policy ≡ begun.config.policy
  pub next : old.next ≤ begun.next
  pub sources : begun.table.sources ≡ old.table.sources
  pub files : begun.table.files ≡ old.table.files
  pub forgotten : (id : TransactionId) → is_forgotten old id ≡ true → is_forgotten begun id ≡ true
  pub none : begun.table.records ≡ []
  pub unarmed : begun.table.armed ≡ map.empty

-- ---- the records
-- A record is restored as it was when the station was killed: a sender after some front of its
-- file, and a receiver with some of the offsets that it held.
abbrev pub RestoresRecord : Seen → (old new : EntityState) → Type 0
RestoresRecord (Sends x) old new = (sent : ℕ)
    × (RestoresSender (sender_back.committed_of x) sent old new × ShowsIf true old.table new.table)
RestoresRecord (Receives r m) old new = (held : Offsets)
    × (((k : ℕ) → set.contains held k ≡ true → set.contains r.held k ≡ true)
    × RestoresReceiver (receiver_back.committed_of r) held old new)

-- A record is restored, or its transaction is forgotten.
abbrev pub RestoresEntry : Entry → (old new : EntityState) → Type 0
RestoresEntry e old new =
    RestoresRecord e.1 old new ⊎ ((new ≡ old) × (is_forgotten old e.0 ≡ true))

-- That is done with all of these, in their order.
abbrev pub RestoresEach : List Entry → (old new : EntityState) → Type 0
RestoresEach [] old new = new ≡ old
RestoresEach (e ∷ es) old new =
    (mid : EntityState) × (RestoresEntry e old mid × RestoresEach es mid new)

-- What is staged for a record that was restored is what was staged when the station was killed,
-- at each offset that it holds.
abbrev pub IsStagedAgain : (old new : Seen) → Type 0
IsStagedAgain (Receives r m) (Receives s n) = s.phase ≡ Receiving → (k : ℕ)
    → set.contains s.held k ≡ true → map.get n k ≡ map.get m k
IsStagedAgain _ _ = Unit {0}

-- That holds of each transaction.
abbrev pub AreStagedAgain : (old new : List Entry) → Type 0
AreStagedAgain old new = (place now : ℕ) (id : TransactionId) (s t : Seen)
    → slice_get old place ≡ Some (id, s) → slice_get new now ≡ Some (id, t) → IsStagedAgain s t
