-- What is kept of a transaction, and what one record of a journal adds to that.
use Rattle.std.specs.Prelude.{ℕ, Bool, ◌&&◌, true, false, Option, None, Some, unwrap_or, if◌then◌else◌}
use Rattle.std.specs.FinSet as set
use Rattle.cfdp_directives.specs.declared.pdu.addressing.Addressing.{Addressing}
use Rattle.cfdp_directives.specs.declared.user.telling.Outcome.{Outcome}
use Rattle.cfdp_directives.specs.Pdu.Codes.{no_error}
use Rattle.cfdp_extents.specs.Offsets.{union_of}
use Rattle.cfdp_receiver.specs.declared.restoring.CommittedReceiver.{CommittedReceiver}
use Rattle.cfdp_receiver.specs.declared.state.ReceiverPhase.{ReceiverPhase}
use Rattle.cfdp_receiver.specs.declared.state.ReceiverPhase.TheVariants as receiver
use Rattle.cfdp_receiver.specs.State.{is_receiving}
use Rattle.cfdp_sender.specs.declared.phase.SenderPhase.{SenderPhase}
use Rattle.cfdp_sender.specs.declared.phase.SenderPhase.TheVariants as sender
use Rattle.cfdp_sender.specs.declared.restoring.CommittedSender.{CommittedSender}
use Rattle.cfdp_sender.specs.declared.transfer.Transfer.{Transfer}
use Rattle.journal_records.specs.declared.record.JournalRecord.{JournalRecord}
use Rattle.journal_records.specs.declared.record.JournalRecord.TheVariants.{Sent, EofTaken, Cancelling, HeardMetadata, HeardEof, Held, Publishing, Finishing, Closed, Suspended, PendingFinished, PendingAbandoned}
use Rattle.transfer_journal.specs.declared.kept.KeptEnd.{KeptEnd}
use Rattle.transfer_journal.specs.declared.kept.KeptEnd.TheVariants.{Sends, Receives}
use Rattle.transfer_journal.specs.declared.kept.KeptReceiver.{KeptReceiver}
use Rattle.transfer_journal.specs.declared.kept.KeptSender.{KeptSender}
use Rattle.transfer_journal.specs.declared.kept.KeptTransfer.{KeptTransfer}
use Rattle.transfer_journal.specs.declared.kept.Publication.{Publication}
use Rattle.transfer_journal.specs.declared.kept.PendingEnd.{PendingEnd}
use Rattle.transfer_journal.specs.declared.kept.PendingEnd.TheVariants.{Finished, Abandoned}

-- ---- a sender
-- of a put that was just accepted
abbrev pub kept_put : Transfer → KeptSender
kept_put transfer = record {
  transfer = transfer;
  sent = 0;
  eof_taken = false;
  cancelled_for = None;
  is_suspended = false;
  is_closed = false;
  is_changed = false;
}

-- Each record says one thing of a sender; those of a receiver say nothing of it.
abbrev pub sender_after : JournalRecord → KeptSender → KeptSender
sender_after (Sent id sent) s = record s { sent = sent }
sender_after (EofTaken id) s = record s { eof_taken = true }
sender_after (Cancelling id condition) s = record s { cancelled_for = Some condition }
sender_after (Suspended id suspended) s = record s { is_suspended = suspended }
sender_after (Finishing id outcome) s = record s { is_closed = true }
sender_after (Closed id outcome) s = record s { is_closed = true }
sender_after _ s = s

abbrev pub cancelled_phase : Option ℕ → SenderPhase
cancelled_phase (Some condition) = sender.Cancelling
cancelled_phase None = sender.Sending

abbrev pub kept_phase : KeptSender → SenderPhase
kept_phase s = if s.is_closed then sender.Closed else cancelled_phase s.cancelled_for

abbrev pub is_sending : SenderPhase → Bool
is_sending sender.Sending = true
is_sending sender.Cancelling = false
is_sending sender.Closed = false

-- what is restored of it: an EOF that was acknowledged is sent again
abbrev pub sender_committed : KeptSender → CommittedSender
sender_committed s = record {
  transfer = s.transfer;
  phase = kept_phase s;
  suspended = s.is_suspended && is_sending (kept_phase s);
  eof_taken = s.eof_taken;
  acknowledged = false;
  condition = unwrap_or s.cancelled_for no_error;
}

-- ---- a receiver
-- of a receiver that was just opened
abbrev pub kept_opened : Addressing → (large : Bool) → KeptReceiver
kept_opened addressing large = record {
  addressing = addressing;
  large = large;
  metadata = None;
  ending = None;
  held = set.empty;
  publishing = None;
  phase = receiver.Receiving;
  outcome = None;
  is_suspended = false;
}

-- of a receiver that ended so: its file isn't about to be published any more
abbrev pub receiver_ended : ReceiverPhase → Option Outcome → KeptReceiver → KeptReceiver
receiver_ended phase outcome r =
    record r { phase = phase; outcome = outcome; publishing = None }

-- Each record says one thing of a receiver; those of a sender say nothing of it.
abbrev pub receiver_after : JournalRecord → KeptReceiver → KeptReceiver
receiver_after (HeardMetadata id info) r = record r { metadata = Some info }
receiver_after (HeardEof id ending) r = record r { ending = Some ending }
receiver_after (Held id large ranges) r =
    record r { large = large; held = set.union r.held (union_of ranges) }
receiver_after (Publishing id name size) r =
    record r { publishing = Some (record { name = name; size = size }) }
receiver_after (Finishing id outcome) r =
    receiver_ended receiver.Finishing (Some outcome) r
receiver_after (Closed id outcome) r = receiver_ended receiver.Closed outcome r
receiver_after (Suspended id suspended) r = record r { is_suspended = suspended }
receiver_after _ r = r

-- what is restored of it, except what it holds
abbrev pub receiver_committed : KeptReceiver → CommittedReceiver
receiver_committed r = record {
  addressing = r.addressing;
  large = r.large;
  phase = r.phase;
  suspended = r.is_suspended && is_receiving r.phase;
  metadata = r.metadata;
  ending = r.ending;
  outcome = r.outcome;
}

-- ---- a transaction
abbrev pub end_after : JournalRecord → KeptEnd → KeptEnd
end_after r (Sends s) = Sends (sender_after r s)
end_after r (Receives x) = Receives (receiver_after r x)

-- if it is over: a sender is closed then
abbrev pub end_closed : ReceiverPhase → Option Outcome → KeptEnd → KeptEnd
end_closed phase outcome (Sends s) = Sends (record s { is_closed = true })
end_closed phase outcome (Receives r) = Receives (receiver_ended phase outcome r)

-- the file that is about to be published
abbrev pub publication_of : KeptEnd → Option Publication
publication_of (Sends s) = None
publication_of (Receives r) = r.publishing

-- the end that the user may not have heard of
abbrev pub pending_after : JournalRecord → Option PendingEnd → Option PendingEnd
pending_after (PendingFinished id outcome) pending = Some (Finished outcome)
pending_after (PendingAbandoned id condition) pending = Some (Abandoned condition)
pending_after _ pending = pending

abbrev pub transfer_after : JournalRecord → KeptTransfer → KeptTransfer
transfer_after r t =
    record t { end = end_after r t.end; pending = pending_after r t.pending }
