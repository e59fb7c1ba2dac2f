-- Ends that the user may not have heard of, as records and as indications.
use Rattle.std.specs.Prelude.{List, [], Option, None, Some}
use Rattle.std.specs.Option.{option_map, option_to_list}
use Rattle.cfdp_header.specs.declared.value.TransactionId.{TransactionId}
use Rattle.cfdp_directives.specs.declared.user.indication.Indication.{Indication}
use Rattle.cfdp_directives.specs.declared.user.indication.Indication.TheVariants as user
use Rattle.journal_records.specs.declared.record.JournalRecord.{JournalRecord}
use Rattle.journal_records.specs.declared.record.JournalRecord.TheVariants.{PendingFinished, PendingAbandoned}
use Rattle.transfer_journal.specs.declared.kept.KeptTransfer.{KeptTransfer}
use Rattle.transfer_journal.specs.declared.kept.PendingEnd.{PendingEnd}
use Rattle.transfer_journal.specs.declared.kept.PendingEnd.TheVariants.{Finished, Abandoned}

-- the record of an end that was indicated
abbrev pub pending_by : Indication → Option JournalRecord
pending_by (user.Finished id condition delivery status) =
    Some (PendingFinished id
    (record { condition = condition; delivery = delivery; status = status }))
pending_by (user.Abandoned id condition) = Some (PendingAbandoned id condition)
pending_by _ = None

-- what the user hears of an end
abbrev pub indication_of : TransactionId → PendingEnd → Indication
indication_of id (Finished o) = user.Finished id o.condition o.delivery o.status
indication_of id (Abandoned condition) = user.Abandoned id condition

-- what the user may not have heard of a transaction
abbrev pub pending_of : KeptTransfer → List Indication
pending_of t = option_to_list (option_map (indication_of t.id) t.pending)

abbrev pub pending_in : Option KeptTransfer → List Indication
pending_in None = []
pending_in (Some t) = pending_of t
