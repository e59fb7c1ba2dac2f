-- Machines that are closed and have nothing due: what still happens to them.
use Rattle.std.specs.Prelude.{◌≡◌, ℕ, false, List, [], Option, Some, None}
use Rattle.std.specs.FinSet as set
use Rattle.cfdp_header.specs.Files.{FileMap}
use Rattle.cfdp_timers.specs.declared.kind.Kind.{Kind}
use Rattle.cfdp_directives.specs.declared.pdu.codes.Acknowledged.TheVariants as acknowledged
use Rattle.cfdp_directives.specs.declared.pdu.codes.TransactionStatus.TheVariants.{Terminated}
use Rattle.cfdp_directives.specs.Pdu.Content.{Content, Eof, Ack}
use Rattle.cfdp_store.specs.declared.stored.Stored.{Stored}
use Rattle.cfdp_store.specs.Staged.{OctetMap}
use Rattle.cfdp_sender.specs.declared.phase.SenderPhase.TheVariants as sending
use Rattle.cfdp_sender.specs.declared.due.SenderDue.TheVariants as sender_due
use Rattle.cfdp_sender.specs.State.{SenderState}
use Rattle.cfdp_sender.specs.Due as sends
use Rattle.cfdp_sender.specs.Inputs.{SenderInput, HearsFinished}
use Rattle.cfdp_sender.specs.Steps.{SenderAfter, sender_waits, sender_sends}
use Rattle.cfdp_receiver.specs.declared.state.ReceiverPhase.TheVariants as receiving
use Rattle.cfdp_receiver.specs.declared.due.Due.TheVariants as receiver_due
use Rattle.cfdp_receiver.specs.State.{ReceiverState}
use Rattle.cfdp_receiver.specs.Due as receives
use Rattle.cfdp_receiver.specs.Steps.{ReceiverAfter, waits, takes}

-- ---- a sender
-- It is closed, so it isn't suspended and nothing is asked for; and it has no acknowledgement due.
pub record RestsSender (x : SenderState) : Type 0 where
  pub closed : x.phase ≡ sending.Closed
  pub awake : x.suspended ≡ false
  pub none_asked : x.asked ≡ set.empty
  pub none_due : x.ack_due ≡ None

-- the condition that it then must acknowledge: only if it hears a Finished
abbrev pub sender_owes : SenderInput → Option ℕ
sender_owes (HearsFinished outcome) = Some outcome.condition
sender_owes _ = None

-- Nothing is indicated, no timer is waited for, and nothing changes except the acknowledgement due.
pub record SenderOwes (owes : Option ℕ) (x : SenderState) (a : SenderAfter) : Type 0 where
  pub told : a.told ≡ []
  pub sender : a.sender ≡ record x { ack_due = owes }
  pub waits : (k : Kind) → sender_waits k a.sender ≡ false

-- The acknowledgement says what the Finished said, and that the transaction is over. Once it is
-- sent the sender is as it was.
pub record SenderAnswers (condition : ℕ) (x : SenderState) : Type 0 where
  pub due : sends.sender_due (record x { ack_due = Some condition })
      ≡ Some (sender_due.AckOfFinished condition)
  pub says : (file : List ℕ) → sends.sender_says file (record x { ack_due = Some condition })
      (sender_due.AckOfFinished condition) ≡ Ack acknowledged.Finished condition Terminated
  pub sent : (stored : Stored) (file : List ℕ) → SenderOwes None x
      (sender_sends stored file (record x { ack_due = Some condition })
      (sender_due.AckOfFinished condition))

-- ---- a receiver
-- It is closed, not suspended, asks for nothing, and has no acknowledgement due.
pub record RestsReceiver (r : ReceiverState) : Type 0 where
  pub closed : r.phase ≡ receiving.Closed
  pub awake : r.suspended ≡ false
  pub none_asked : r.nak_cursor ≡ None
  pub none_due : r.ack_due ≡ None

abbrev pub receiver_owes : Content → Option ℕ
receiver_owes (Eof condition checksum size tlvs) = Some condition
receiver_owes _ = None

-- Nothing is indicated, staged or published, no timer is waited for, and nothing changes except the
-- acknowledgement due.
pub record ReceiverOwes (owes : Option ℕ) (m : OctetMap) (files : FileMap) (r : ReceiverState)
    (a : ReceiverAfter) : Type 0 where
  pub told : a.told ≡ []
  pub receiver : a.receiver ≡ record r { ack_due = owes }
  pub waits : (k : Kind) → waits k a.receiver ≡ false
  pub octets : a.octets ≡ m
  pub published : a.files ≡ files

pub record ReceiverAnswers (condition : ℕ) (r : ReceiverState) : Type 0 where
  pub due : receives.receiver_due (record r { ack_due = Some condition })
      ≡ Some (receiver_due.AckOfEof condition)
  pub says : receives.receiver_says (record r { ack_due = Some condition })
      (receiver_due.AckOfEof condition) ≡ Ack acknowledged.Eof condition Terminated
  pub sent : (m : OctetMap) (files : FileMap) → ReceiverOwes None m files r
      (takes (receiver_due.AckOfEof condition) m files (record r { ack_due = Some condition }))
