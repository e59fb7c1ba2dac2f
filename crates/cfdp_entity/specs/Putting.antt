-- What a put does, and when it is refused.
use Rattle.std.specs.Prelude.{◌≡◌, ℕ, ◌+◌, ◌^◌, ◌<◌, ◌&&◌, nat_lt, nat_le, not, Bool, true, false, List, length, Option, Some, None, Result, Err, if◌then◌else◌}
use Rattle.std.specs.FinMap as map
use Rattle.std.specs.Option.{option_or}
use Rattle.cfdp_header.specs.declared.value.TransactionId.{TransactionId}
use Rattle.cfdp_directives.specs.declared.pdu.addressing.Addressing.{Addressing}
use Rattle.cfdp_directives.specs.Pdu.Codes.{size_limit}
use Rattle.cfdp_directives.specs.User.FileName.{IsFileName, is_file_name}
use Rattle.cfdp_store.specs.declared.stored.Stored.{Stored}
use Rattle.cfdp_store.specs.declared.stored.Stored.TheVariants.{Done, Refused}
use Rattle.cfdp_store.specs.Files.{octets_in}
use Rattle.cfdp_sender.specs.declared.transfer.Transfer.{Transfer}
use Rattle.cfdp_entity.specs.declared.error.PutError.{PutError}
use Rattle.cfdp_entity.specs.declared.error.PutError.TheVariants.{Name, TableFull, NumbersSpent, SourceFault, NoSuchFile, TooLarge, NoMemory}
use Rattle.cfdp_entity.specs.Entity.{EntityState, is_forgotten, own_id}
use Rattle.cfdp_entity.specs.Table.{place_of, put_in, most_records}

-- the transaction that the next put opens
abbrev pub next_id : EntityState → TransactionId
next_id e = own_id e.config.entity e.next

abbrev pub next_addressing : EntityState → Addressing
next_addressing e = record {
  id = next_id e;
  destination = e.config.peer;
  id_width = e.config.id_width;
  number_width = e.config.number_width;
  crc = e.config.pdu_crc;
}

-- what it sends, by the names of the file here and at the peer, and the file's octets
abbrev pub next_transfer : (source destination : List ℕ) → ℕ → EntityState → Transfer
next_transfer source destination size e = record {
  addressing = next_addressing e;
  checksum_kind = e.config.checksum_kind;
  segment = e.config.segment;
  source = source;
  destination = destination;
  size = size;
}

-- ---- refusals
abbrev pub are_names : (source destination : List ℕ) → Bool
are_names source destination = is_file_name source && is_file_name destination

-- why the file is refused, if it is
abbrev pub file_refusal : Option (List ℕ) → Option PutError
file_refusal None = Some NoSuchFile
file_refusal (Some octets) =
    if nat_le (length octets) (size_limit true) then None else Some TooLarge

-- why a put is refused if the outbox was asked for the file
abbrev pub asked : Stored → Option (List ℕ) → Option PutError
asked Refused file = Some SourceFault
asked Done file = file_refusal file

-- why it is refused before the outbox is asked
abbrev pub early_refusal : (source destination : List ℕ) → EntityState → Option PutError
early_refusal source destination e =
    if not (are_names source destination) then Some Name
    else if nat_le most_records (length e.table.records) then Some TableFull
    else if not (nat_lt e.next (256 ^ e.config.number_width)) then Some NumbersSpent
    else None

-- the first cause that holds, by how the outbox answers
abbrev pub put_refusal : Stored → (source destination : List ℕ) → EntityState → Option PutError
put_refusal stored source destination e =
    option_or (early_refusal source destination e) (asked stored (map.get e.table.sources source))

-- Nothing but the outbox and memory can refuse a put of these names.
pub record MayPut (source destination : List ℕ) (e : EntityState) : Type 0 where
  pub source_name : IsFileName source
  pub destination_name : IsFileName destination
  pub not_full : length e.table.records < most_records
  pub number : e.next < 256 ^ e.config.number_width

-- A put with this number isn't refused before the outbox is asked.
pub record MayPutAs (number : ℕ) (source destination : List ℕ) (e : EntityState) : Type 0 where
  pub is_next : number ≡ e.next
  pub may : MayPut source destination e

-- how the outbox answered a put that was refused so: if it wasn't asked, it didn't fail
abbrev pub stored_by_error : PutError → Stored
stored_by_error SourceFault = Refused
stored_by_error _ = Done

-- If a put is refused, this is the cause, or there is no memory.
abbrev pub IsPutRefusal : Option PutError → PutError → Type 0
IsPutRefusal (Some e) by = by ≡ e
IsPutRefusal None by = by ≡ NoMemory

-- `true` if the outbox answered all that a put asked of it
abbrev pub was_answered : {X : Type 0} → Result X PutError → Bool
was_answered (Err SourceFault) = false
was_answered _ = true

-- ---- an accepted put
-- it opens a sending record, and the next number rises by one
abbrev pub with_put : Transfer → EntityState → EntityState
with_put t e = record e { table = put_in t e.table; next = e.next + 1 }

-- A put of these names was accepted, and has this id.
pub record Accepts (source destination : List ℕ) (id : TransactionId)
    (old new : EntityState) : Type 0 where
  pub fresh : place_of id old.table.records ≡ None
  pub unforgotten : is_forgotten old id ≡ false
  pub is_next : id ≡ next_id old
  pub allowed : put_refusal Done source destination old ≡ None
  pub opened : new ≡ with_put (next_transfer source destination
      (length (octets_in old.table.sources source)) old) old
