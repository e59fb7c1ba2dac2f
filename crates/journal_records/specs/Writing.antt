-- How records are written. A number of several octets has its most significant octet first (`w16`,
-- `w32` and `w64`: in 2, 4 and 8 octets).
use Rattle.std.specs.Prelude.{◌++◌, ◌^◌, ◌<◌, ℕ, Bool, true, false, List, [], ◌∷◌, length, Option, Some, None, IfSome}
use Rattle.std.specs.List.{flat_map, AllByRecursion}
use Rattle.std.specs.Int.{w16, w32, w64, to_be_bytes}
use Rattle.cfdp_header.specs.declared.value.TransactionId.{TransactionId}
use Rattle.cfdp_directives.specs.declared.pdu.addressing.Addressing.{Addressing}
use Rattle.cfdp_directives.specs.declared.user.telling.Outcome.{Outcome}
use Rattle.cfdp_directives.specs.Pdu.Codes.{IsCondition, delivery_code, file_status_code}
use Rattle.cfdp_sender.specs.declared.transfer.Transfer.{Transfer}
use Rattle.journal_records.specs.declared.record.RecordKind.{RecordKind}
use Rattle.journal_records.specs.declared.record.RecordKind.TheVariants as kind
use Rattle.journal_records.specs.declared.record.JournalRecord.{JournalRecord}
use Rattle.journal_records.specs.declared.record.JournalRecord.TheVariants.{Station, Put, Sent, EofTaken, Cancelling, Opened, HeardMetadata, HeardEof, Held, Publishing, Finishing, Closed, Suspended, PendingFinished, PendingAbandoned, Forgotten}

-- ---- fields
abbrev pub octet : ℕ → List ℕ
octet n = n ∷ []

abbrev pub flag_code : Bool → ℕ
flag_code false = 0
flag_code true = 1

abbrev pub flag_octets : Bool → List ℕ
flag_octets b = octet (flag_code b)

abbrev pub id_octets : TransactionId → List ℕ
id_octets id = to_be_bytes w64 id.source ++ to_be_bytes w64 id.number

-- a name, with its length before it
abbrev pub name_octets : List ℕ → List ℕ
name_octets name = to_be_bytes w64 (length name) ++ name

-- several values, with their count before them
abbrev pub list_octets : {A : Type 0} → (A → List ℕ) → List A → List ℕ
list_octets write xs = to_be_bytes w64 (length xs) ++ flat_map write xs

abbrev pub range_octets : ℕ × ℕ → List ℕ
range_octets r = to_be_bytes w64 r.0 ++ to_be_bytes w64 r.1

abbrev pub ranges_octets : List (ℕ × ℕ) → List ℕ
ranges_octets ranges = list_octets range_octets ranges

abbrev pub addressing_octets : Addressing → List ℕ
addressing_octets a =
    id_octets a.id ++ to_be_bytes w64 a.destination ++ octet a.id_width ++ octet a.number_width
    ++ flag_octets a.crc

abbrev pub outcome_octets : Outcome → List ℕ
outcome_octets o =
    octet o.condition ++ octet (delivery_code o.delivery) ++ octet (file_status_code o.status)

abbrev pub optional_octets : Option Outcome → List ℕ
optional_octets None = flag_octets false
optional_octets (Some o) = flag_octets true ++ outcome_octets o

abbrev pub transfer_octets : Transfer → List ℕ
transfer_octets t =
    addressing_octets t.addressing ++ octet t.checksum_kind ++ to_be_bytes w16 t.segment
    ++ name_octets t.source ++ name_octets t.destination ++ to_be_bytes w64 t.size

-- ---- records
abbrev pub kind_of : JournalRecord → RecordKind
kind_of (Station owner) = kind.Station
kind_of (Put t) = kind.Put
kind_of (Sent id sent) = kind.Sent
kind_of (EofTaken id) = kind.EofTaken
kind_of (Cancelling id condition) = kind.Cancelling
kind_of (Opened a large) = kind.Opened
kind_of (HeardMetadata id info) = kind.HeardMetadata
kind_of (HeardEof id ending) = kind.HeardEof
kind_of (Held id large ranges) = kind.Held
kind_of (Publishing id name size) = kind.Publishing
kind_of (Finishing id o) = kind.Finishing
kind_of (Closed id o) = kind.Closed
kind_of (Suspended id is) = kind.Suspended
kind_of (PendingFinished id o) = kind.PendingFinished
kind_of (PendingAbandoned id condition) = kind.PendingAbandoned
kind_of (Forgotten source ranges) = kind.Forgotten

abbrev pub kind_code : RecordKind → ℕ
kind_code kind.Station = 0
kind_code kind.Put = 1
kind_code kind.Sent = 2
kind_code kind.EofTaken = 3
kind_code kind.Cancelling = 4
kind_code kind.Opened = 5
kind_code kind.HeardMetadata = 6
kind_code kind.HeardEof = 7
kind_code kind.Held = 8
kind_code kind.Publishing = 9
kind_code kind.Finishing = 10
kind_code kind.Closed = 11
kind_code kind.Suspended = 12
kind_code kind.PendingFinished = 13
kind_code kind.PendingAbandoned = 14
kind_code kind.Forgotten = 15

-- what follows the kind of a record
abbrev pub body_octets : JournalRecord → List ℕ
body_octets (Station owner) =
    to_be_bytes w64 owner.entity ++ to_be_bytes w64 owner.peer ++ to_be_bytes w64 owner.start
body_octets (Put t) = transfer_octets t
body_octets (Sent id sent) = id_octets id ++ to_be_bytes w64 sent
body_octets (EofTaken id) = id_octets id
body_octets (Cancelling id condition) = id_octets id ++ octet condition
body_octets (Opened a large) = addressing_octets a ++ flag_octets large
body_octets (HeardMetadata id info) =
    id_octets id ++ octet info.checksum_kind ++ name_octets info.destination
body_octets (HeardEof id ending) =
    id_octets id ++ to_be_bytes w32 ending.checksum ++ to_be_bytes w64 ending.size
body_octets (Held id large ranges) = id_octets id ++ flag_octets large ++ ranges_octets ranges
body_octets (Publishing id name size) = id_octets id ++ name_octets name ++ to_be_bytes w64 size
body_octets (Finishing id o) = id_octets id ++ outcome_octets o
body_octets (Closed id o) = id_octets id ++ optional_octets o
body_octets (Suspended id is) = id_octets id ++ flag_octets is
body_octets (PendingFinished id o) = id_octets id ++ outcome_octets o
body_octets (PendingAbandoned id condition) = id_octets id ++ octet condition
body_octets (Forgotten source ranges) = to_be_bytes w64 source ++ ranges_octets ranges

abbrev pub record_octets : JournalRecord → List ℕ
record_octets r = octet (kind_code (kind_of r)) ++ body_octets r

-- the text of a batch
abbrev pub records_octets : List JournalRecord → List ℕ
records_octets rs = list_octets record_octets rs

-- ---- what can be written: each number has room in its octets
abbrev pub FitsId : TransactionId → Type 0
FitsId id = (id.source < 2 ^ 64) × (id.number < 2 ^ 64)

abbrev pub FitsName : List ℕ → Type 0
FitsName name = length name < 2 ^ 64

abbrev pub FitsRange : ℕ × ℕ → Type 0
FitsRange r = (r.0 < 2 ^ 64) × (r.1 < 2 ^ 64)

abbrev pub FitsRanges : List (ℕ × ℕ) → Type 0
FitsRanges ranges = (length ranges < 2 ^ 64) × AllByRecursion FitsRange ranges

pub record FitsAddress (a : Addressing) : Type 0 where
  pub id : FitsId a.id
  pub destination : a.destination < 2 ^ 64
  pub id_width : a.id_width < 2 ^ 8
  pub number_width : a.number_width < 2 ^ 8

abbrev pub FitsOutcome : Outcome → Type 0
FitsOutcome o = IsCondition o.condition

pub record FitsTransfer (t : Transfer) : Type 0 where
  pub addressing : FitsAddress t.addressing
  pub checksum_kind : t.checksum_kind < 16
  pub segment : t.segment < 2 ^ 16
  pub source : FitsName t.source
  pub destination : FitsName t.destination
  pub size : t.size < 2 ^ 64

abbrev pub FitsRecord : JournalRecord → Type 0
FitsRecord (Station owner) =
    (owner.entity < 2 ^ 64) × (owner.peer < 2 ^ 64) × (owner.start < 2 ^ 64)
FitsRecord (Put t) = FitsTransfer t
FitsRecord (Sent id sent) = FitsId id × (sent < 2 ^ 64)
FitsRecord (EofTaken id) = FitsId id
FitsRecord (Cancelling id condition) = FitsId id × IsCondition condition
FitsRecord (Opened a large) = FitsAddress a
FitsRecord (HeardMetadata id info) =
    FitsId id × (info.checksum_kind < 16) × FitsName info.destination
FitsRecord (HeardEof id ending) = FitsId id × (ending.checksum < 2 ^ 32) × (ending.size < 2 ^ 64)
FitsRecord (Held id large ranges) = FitsId id × FitsRanges ranges
FitsRecord (Publishing id name size) = FitsId id × FitsName name × (size < 2 ^ 64)
FitsRecord (Finishing id o) = FitsId id × FitsOutcome o
FitsRecord (Closed id o) = FitsId id × IfSome o FitsOutcome
FitsRecord (Suspended id is) = FitsId id
FitsRecord (PendingFinished id o) = FitsId id × FitsOutcome o
FitsRecord (PendingAbandoned id condition) = FitsId id × IsCondition condition
FitsRecord (Forgotten source ranges) = (source < 2 ^ 64) × FitsRanges ranges

abbrev pub AreRecords : List JournalRecord → Type 0
AreRecords rs = (length rs < 2 ^ 64) × AllByRecursion FitsRecord rs
