-- An entity that is restored from what was committed of it.
use Rattle.std.specs.Prelude.{◌≡◌, ◌<◌, ◌≤◌, ℕ, true, List, [], Some, None, slice_get, take}
use Rattle.std.specs.List.{IsDistinct}
use Rattle.std.specs.Map.{keys_of}
use Rattle.std.specs.FinMap as map
use Rattle.std.specs.FinSet as set
use Rattle.cfdp_header.specs.declared.value.TransactionId.{TransactionId}
use Rattle.cfdp_header.specs.Files.{FileMap}
use Rattle.cfdp_header.specs.Ids.{same_id}
use Rattle.cfdp_directives.specs.declared.pdu.sums.Checksums.{Checksums}
use Rattle.cfdp_directives.specs.User.Completions.{completions}
use Rattle.cfdp_extents.specs.Offsets.{Offsets}
use Rattle.cfdp_store.specs.Files.{octets_in}
use Rattle.cfdp_store.specs.Staged.{OctetMap}
use Rattle.cfdp_sender.specs.Inputs.{finished_count, front_sums}
use Rattle.cfdp_sender.specs.State.{SenderState, IsCause}
use Rattle.cfdp_receiver.specs.declared.state.ReceiverPhase.TheVariants.{Receiving}
use Rattle.cfdp_receiver.specs.State.{ReceiverState, kind_told}
use Rattle.cfdp_entity.specs.Config.{IsConfig}
use Rattle.cfdp_entity.specs.Entity.{EntityState, is_forgotten}
use Rattle.cfdp_entity.specs.History.{Leads, may_finish}
use Rattle.cfdp_entity.specs.Seen.{Seen, Sends, Receives}
use Rattle.cfdp_entity.specs.Sound.{GoesOn}
use Rattle.cfdp_entity.specs.Table.{Entry, record_of}
use Rattle.cfdp_entity.specs.Telling.{WasIndicated}
use Rattle.cfdp_entity.specs.Timed.{AreTimed}
use Rattle.cfdp_receiver.specs.Back.{received_back}
use Rattle.cfdp_sender.specs.Back.{sent_back}
use Rattle.cfdp_resuming.specs.Later.{IsLaterSeen}
use Rattle.cfdp_resuming.specs.Receiver.{SumsStaged}

-- A receiver was committed as r, and was s, with the octets of n staged, when its station was
-- killed. It is restored with some of the offsets that r held, if s still received then; the octets
-- that s had there are still staged.
pub record ReceiverBack (r s : ReceiverState) (n : OctetMap) (seen : Seen) : Type 0 where
  pub held : Offsets
  pub sums : Checksums
  pub octets : OctetMap
  pub is : seen ≡ Receives (received_back held sums r) octets
  pub there : (k : ℕ) → set.contains held k ≡ true → (s.phase ≡ Receiving)
      × (set.contains r.held k ≡ true) × (map.get octets k ≡ map.get n k)
  pub summed : SumsStaged (kind_told r.metadata) held octets sums

-- A sender that was committed as x is restored after some front of its file.
pub record SenderBack (file : List ℕ) (x : SenderState) (seen : Seen) : Type 0 where
  pub sent : ℕ
  pub sums : Checksums
  pub is : seen ≡ Sends (sent_back sent sums x)
  pub within : sent ≤ x.size
  pub front : sums ≡ front_sums x.checksum_kind (take sent file)
  pub cause : IsCause x.phase x.condition

abbrev pub IsBack : FileMap → (saved old new : Seen) → Type 0
IsBack sources (Sends x) (Sends y) seen = SenderBack (octets_in sources x.source) x seen
IsBack sources (Receives r m) (Receives s n) seen = ReceiverBack r s n seen
IsBack sources _ _ seen = ⊥

-- A record is restored from what was committed of it, whatever it was when the station was killed.
pub record ComesAs (sources : FileMap) (saved old : List Entry) (e : Entry) : Type 0 where
  pub place : ℕ
  pub before : Seen
  pub was : slice_get saved place ≡ Some (e.0, before)
  pub back : (now : Seen) → slice_get old place ≡ Some (e.0, now) → IsBack sources before now e.1

-- A record is restored from what was committed of it at some time, each record at its own time, and
-- has become since then what it was when the station was killed.
pub record ComesAsEver (sources : FileMap) (old : List Entry) (e : Entry) : Type 0 where
  pub place : ℕ
  pub now : Seen
  pub was : slice_get old place ≡ Some (e.0, now)
  pub before : Seen
  pub later : IsLaterSeen before now
  pub back : IsBack sources before now e.1

-- An entity was committed as `saved`, was `old` when its station was killed, and is restored as
-- `new`. It published no file in between. What it indicated in between is taken back.
pub record ComesBackAs (saved old new : EntityState) : Type 0 where
  pub leads : Leads saved.table old.table
  pub goes : GoesOn saved old
  pub none_published : completions old.config.entity goes.gained ≡ []
  pub files : new.table.files ≡ old.table.files
  pub valid : IsConfig new.config
  pub own : new.config.entity ≡ old.config.entity
  pub peer : new.config.peer ≡ old.config.peer
  pub policy : new.table.policy ≡ new.config.policy
  pub next : old.next ≤ new.next
  pub sources : new.table.sources ≡ old.table.sources
  pub records : (place : ℕ) (e : Entry) → slice_get new.table.records place ≡ Some e
      → ComesAs saved.table.sources saved.table.records old.table.records e
  pub distinct : IsDistinct same_id (keys_of new.table.records)
  pub apart : (id : TransactionId) → is_forgotten new id ≡ true
      → record_of id new.table.records ≡ None
  pub told : new.table.told ≡ saved.table.told
  pub ended : (place : ℕ) (e : Entry) → slice_get new.table.records place ≡ Some e
      → WasIndicated new.table.told e.1
  pub unended : (id : TransactionId) → 0 < may_finish (is_forgotten new) id new.table.records
      → finished_count id new.table.told ≡ 0
  pub timed : AreTimed new.table
