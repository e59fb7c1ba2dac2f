-- A put, the PDUs that say the truth about it, and when it was received in full.
use Rattle.std.specs.Prelude.{◌≡◌, ℕ, ◌+◌, ◌<◌, ◌≤◌, List, [], ◌∷◌, length, take, drop, Option, Some, None, Any}
use Rattle.std.specs.FinMap.{insert}
use Rattle.cfdp_header.specs.declared.value.Header.{Header}
use Rattle.cfdp_header.specs.declared.value.TransactionId.{TransactionId}
use Rattle.cfdp_header.specs.Files.{FileMap}
use Rattle.cfdp_directives.specs.declared.pdu.codes.Delivery.TheVariants.{Complete}
use Rattle.cfdp_directives.specs.declared.pdu.codes.FileStatus.TheVariants.{Retained}
use Rattle.cfdp_directives.specs.Pdu.Codes.{no_error}
use Rattle.cfdp_directives.specs.Pdu.Content.{Content, FileData, Metadata, Eof, Finished}
use Rattle.cfdp_directives.specs.Pdu.Tlv.{Tlv}
use Rattle.cfdp_directives.specs.Pdu.Grammar.{SpellsPdu}
use Rattle.cfdp_directives.specs.Pdu.Checksum.{checksum_of}

-- An accepted put: its id, the names, the octets that the outbox of its station has under the
-- source name, and the checksum type that its station is configured with.
pub record Put : Type 0 where
  pub id : TransactionId
  pub source : List ℕ
  pub destination : List ℕ
  pub octets : List ℕ
  pub checksum_kind : ℕ

-- What is said of the put is true: Metadata has its names, size and checksum type, file data are
-- the file's at that offset, and an EOF without an error has the file's size and checksum (CCSDS
-- 727.0-B-5, 4.6.1.1). Other PDUs say nothing of the file.
abbrev pub IsTruthful : Put → Content → Type 0
IsTruthful put (Metadata kind size source destination options) =
    (kind ≡ put.checksum_kind) × (size ≡ length put.octets)
    × (source ≡ put.source) × (destination ≡ put.destination)
IsTruthful put (FileData offset bytes) = bytes ≡ take (length bytes) (drop offset put.octets)
IsTruthful put (Eof condition checksum size tlvs) = condition ≡ no_error →
    (checksum ≡ checksum_of put.checksum_kind put.octets) × (size ≡ length put.octets)
IsTruthful put _ = Unit {0}

-- A PDU of this transaction, which an entity sends, says what is true of a put of that entity.
-- `put_of` finds the put of a transaction.
abbrev pub IsOfPut : ℕ → (TransactionId → Option Put) → TransactionId → Content → Type 0
IsOfPut own put_of id v =
    (put : Put) × ((id.source ≡ own) × (put_of id ≡ Some put) × IsTruthful put v)

-- An entity sends the truth: Metadata, file data and EOF speak of a put of its own, and truthfully.
-- The other PDUs speak of no file.
abbrev pub SaysTruth : ℕ → (TransactionId → Option Put) → TransactionId → Content → Type 0
SaysTruth own put_of id (FileData offset bytes) = IsOfPut own put_of id (FileData offset bytes)
SaysTruth own put_of id (Metadata kind size source destination options) =
    IsOfPut own put_of id (Metadata kind size source destination options)
SaysTruth own put_of id (Eof condition checksum size tlvs) =
    IsOfPut own put_of id (Eof condition checksum size tlvs)
SaysTruth own put_of id _ = Unit {0}

-- a Finished of this transaction that says that the file was delivered
abbrev pub SaysComplete : TransactionId → Header → Content → Type 0
SaysComplete id h v =
    (h.id ≡ id) × ((tlvs : List Tlv) × (v ≡ Finished no_error Complete Retained tlvs))

-- One of the PDUs, each a list of octets, is spelled by a header and a content of which P holds.
abbrev pub SomePdu : (Header → Content → Type 0) → List (List ℕ) → Type 0
SomePdu P pdus = Any (λ text. (h : Header) × ((v : Content) × (SpellsPdu h v text × P h v))) pdus

-- It is Metadata of the put, and truthful.
abbrev pub IsMetadataOf : Put → Header → Content → Type 0
IsMetadataOf put h (Metadata kind size source destination options) =
    (h.id ≡ put.id) × IsTruthful put (Metadata kind size source destination options)
IsMetadataOf put h _ = ⊥

-- It is an EOF of the put without an error, and truthful.
abbrev pub IsEofOf : Put → Header → Content → Type 0
IsEofOf put h (Eof condition checksum size tlvs) =
    (h.id ≡ put.id) × (condition ≡ no_error) × IsTruthful put (Eof condition checksum size tlvs)
IsEofOf put h _ = ⊥

-- It is file data of the put with the octet at offset n, and truthful.
abbrev pub Brings : Put → ℕ → Header → Content → Type 0
Brings put n h (FileData offset bytes) =
    (h.id ≡ put.id) × (offset ≤ n) × (n < offset + length bytes)
    × IsTruthful put (FileData offset bytes)
Brings put n h _ = ⊥

-- The put was received in full: among the PDUs are its Metadata, its EOF without an error, and file
-- data that cover every offset of the file, all of them truthful.
pub record HeardInFull (put : Put) (pdus : List (List ℕ)) : Type 0 where
  pub metadata : SomePdu (IsMetadataOf put) pdus
  pub ending : SomePdu (IsEofOf put) pdus
  pub file : (n : ℕ) → n < length put.octets → SomePdu (Brings put n) pdus

-- files with a put's file written over them
abbrev pub overwritten : FileMap → Option Put → FileMap
overwritten files None = files
overwritten files (Some put) = insert files put.destination put.octets

-- the inbox after these completions: the first files, overwritten in turn by the files of the puts
-- that the ids name
abbrev pub inbox_after : (TransactionId → Option Put) → FileMap → List TransactionId → FileMap
inbox_after put_of first [] = first
inbox_after put_of first (id ∷ ids) = inbox_after put_of (overwritten first (put_of id)) ids
