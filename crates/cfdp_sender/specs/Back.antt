-- How a sender is restored from what a journal keeps of it.
use Rattle.std.specs.Prelude.{◌≡◌, ℕ, ◌==◌, ◌&&◌, not, Bool, true, false}
use Rattle.cfdp_directives.specs.declared.pdu.sums.Checksums.{Checksums}
use Rattle.cfdp_sender.specs.declared.restoring.CommittedSender.{CommittedSender}
use Rattle.cfdp_sender.specs.declared.phase.SenderPhase.{SenderPhase}
use Rattle.cfdp_sender.specs.declared.phase.SenderPhase.TheVariants.{Sending, Cancelling, Closed}
use Rattle.cfdp_sender.specs.State.{SenderState, IsCause, IsSendable, opened_sender, transfer_of}

-- what a journal keeps of a sender, except how much of its file was sent
abbrev pub committed_of : SenderState → CommittedSender
committed_of x = record {
  transfer = transfer_of x;
  phase = x.phase;
  suspended = x.suspended;
  eof_taken = x.eof_taken;
  acknowledged = x.acknowledged;
  condition = x.condition;
}

-- a sender of which this is known, and which sent nothing of its file
abbrev pub committed : CommittedSender → SenderState
committed c = record (opened_sender c.transfer) {
  phase = c.phase;
  suspended = c.suspended;
  eof_taken = c.eof_taken;
  acknowledged = c.acknowledged;
  condition = c.condition;
}

-- What a journal keeps of a sender is in its ranges: its put is sendable, it is cancelled only
-- because of an error, and it is suspended only while it sends.
pub record IsCommitted (c : CommittedSender) : Type 0 where
  pub sendable : IsSendable c.transfer
  pub cause : IsCause c.phase c.condition
  pub suspended : c.suspended ≡ true → c.phase ≡ Sending

-- `true` if its EOF is due again
abbrev pub eof_due_in : SenderPhase → (taken acknowledged : Bool) → Bool
eof_due_in Sending taken acknowledged = taken && not acknowledged
eof_due_in Cancelling taken acknowledged = true
eof_due_in Closed taken acknowledged = false

-- A sender is restored after some front of its file, with the sums of that front. Its EOF is due
-- again if one was sent and none was acknowledged, and its Metadata if nothing of the file was
-- sent.
abbrev pub sent_in : SenderPhase → ℕ → Checksums → CommittedSender → SenderState
sent_in Sending sent sums c = record (committed c) {
  sent = sent;
  sums = sums;
  metadata_due = sent == 0;
  eof_due = c.eof_taken && not c.acknowledged;
}
sent_in Cancelling sent sums c =
    record (committed c) { sent = sent; sums = sums; metadata_due = false; eof_due = true }
sent_in Closed sent sums c = record (committed c) { sent = sent; sums = sums; metadata_due = false }

abbrev pub sent_from : ℕ → Checksums → CommittedSender → SenderState
sent_from sent sums c = sent_in c.phase sent sums c

-- the same, from what was committed of a sender
abbrev pub sent_back : ℕ → Checksums → SenderState → SenderState
sent_back sent sums x = sent_from sent sums (committed_of x)
