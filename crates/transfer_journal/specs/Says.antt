-- What the records of a journal say of each transaction.
use Rattle.std.specs.Prelude.{ℕ, Bool, ◌==◌, ◌&&◌, false, List, [], ◌∷◌, Option, None, Some, if◌then◌else◌}
use Rattle.std.specs.List.{list_any}
use Rattle.std.specs.Option.{option_map}
use Rattle.cfdp_header.specs.declared.value.TransactionId.{TransactionId}
use Rattle.cfdp_header.specs.Ids.{same_id}
use Rattle.cfdp_directives.specs.declared.pdu.addressing.Addressing.{Addressing}
use Rattle.cfdp_extents.specs.Offsets.{is_within}
use Rattle.journal_records.specs.declared.record.JournalRecord.{JournalRecord}
use Rattle.journal_records.specs.declared.record.JournalRecord.TheVariants.{Station, Put, Sent, EofTaken, Cancelling, Opened, HeardMetadata, HeardEof, Held, Publishing, Finishing, Closed, Suspended, PendingFinished, PendingAbandoned, Forgotten}
use Rattle.transfer_journal.specs.declared.kept.KeptEnd.{KeptEnd}
use Rattle.transfer_journal.specs.declared.kept.KeptEnd.TheVariants.{Sends, Receives}
use Rattle.transfer_journal.specs.declared.kept.KeptTransfer.{KeptTransfer}
use Rattle.transfer_journal.specs.Kept.{kept_opened, kept_put, transfer_after}

-- What is known of a transaction: `None` if no record opened it, `Some None` if it was known and is
-- forgotten, and otherwise what is kept of it.
abbrev pub Known : Type 0
Known = Option (Option KeptTransfer)

-- the transaction that a record is about, if it is about one
abbrev pub id_of : JournalRecord → Option TransactionId
id_of (Station owner) = None
id_of (Put transfer) = Some transfer.addressing.id
id_of (Sent id sent) = Some id
id_of (EofTaken id) = Some id
id_of (Cancelling id condition) = Some id
id_of (Opened addressing large) = Some addressing.id
id_of (HeardMetadata id info) = Some id
id_of (HeardEof id ending) = Some id
id_of (Held id large ranges) = Some id
id_of (Publishing id name size) = Some id
id_of (Finishing id outcome) = Some id
id_of (Closed id outcome) = Some id
id_of (Suspended id suspended) = Some id
id_of (PendingFinished id outcome) = Some id
id_of (PendingAbandoned id condition) = Some id
id_of (Forgotten source ranges) = None

-- `true` if a record is about this transaction
abbrev pub is_id : TransactionId → Option TransactionId → Bool
is_id id (Some other) = same_id id other
is_id id None = false

-- the transactions that are forgotten by a record: a source, and ranges of numbers
abbrev pub forgotten_by : JournalRecord → Option (ℕ × List (ℕ × ℕ))
forgotten_by (Forgotten source ranges) = Some (source, ranges)
forgotten_by _ = None

abbrev pub is_in : ℕ → List (ℕ × ℕ) → TransactionId → Bool
is_in source ranges id =
    (id.source == source) && list_any (λ r. is_within r.0 r.1 id.number) ranges

-- `true` if this transaction is among them
abbrev pub is_among : TransactionId → Option (ℕ × List (ℕ × ℕ)) → Bool
is_among id (Some those) = is_in those.0 those.1 id
is_among id None = false

-- What a record opens: a put, or a receiver. If a file is about to be published that no record
-- opened, its receiver is addressed as these are.
abbrev pub opened_by : Addressing → JournalRecord → Option KeptEnd
opened_by a (Put transfer) = Some (Sends (kept_put transfer))
opened_by a (Opened addressing large) = Some (Receives (kept_opened addressing large))
opened_by a (Publishing id name size) =
    Some (Receives (record (kept_opened (record a { id = id }) false) {
      publishing = Some (record { name = name; size = size });
    }))
opened_by a _ = None

-- what a record about a transaction says of it, of which this was known
abbrev pub said_of : Addressing → TransactionId → JournalRecord → Known → Known
said_of a id r None =
    option_map (λ end. Some (record { id = id; end = end; pending = None })) (opened_by a r)
said_of a id r (Some slot) = Some (option_map (transfer_after r) slot)

-- what is known of a transaction after a record: one about others says nothing of it
abbrev pub forgotten_said : TransactionId → JournalRecord → Known → Known
forgotten_said id r known =
    if is_among id (forgotten_by r) then option_map (λ slot. None) known else known

abbrev pub says : Addressing → TransactionId → JournalRecord → Known → Known
says a id r known =
    if is_id id (id_of r) then said_of a id r known else forgotten_said id r known

-- after all of these, in order
abbrev pub all_say : Addressing → TransactionId → List JournalRecord → Known → Known
all_say a id [] known = known
all_say a id (r ∷ rs) known = all_say a id rs (says a id r known)
