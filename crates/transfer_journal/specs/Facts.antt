-- Proof-only: which records are appended.
use Rattle.std.specs.Prelude.{◌≡◌, ℕ, ◌&&◌, ◌||◌, ◌++◌, Bool, true, false, List, [], ◌∷◌, Option, None, Some, is_some, if◌then◌else◌, not}
use Rattle.std.specs.FinSet as set
use Rattle.std.specs.Option.{option_map, option_to_list}
use Rattle.cfdp_header.specs.declared.value.TransactionId.{TransactionId}
use Rattle.cfdp_directives.specs.declared.user.telling.Outcome.{Outcome}
use Rattle.cfdp_sender.specs.State.{SenderState, transfer_of}
use Rattle.cfdp_sender.specs.declared.phase.SenderPhase.{SenderPhase}
use Rattle.cfdp_sender.specs.declared.phase.SenderPhase.TheVariants as sender
use Rattle.cfdp_receiver.specs.State.{ReceiverState}
use Rattle.cfdp_receiver.specs.declared.state.ReceiverPhase.{ReceiverPhase}
use Rattle.cfdp_receiver.specs.declared.state.ReceiverPhase.TheVariants as receiver
use Rattle.journal_records.specs.declared.record.JournalRecord.{JournalRecord}
use Rattle.journal_records.specs.declared.record.JournalRecord.TheVariants.{EofTaken, Cancelling, HeardMetadata, HeardEof, Held, Finishing, Closed, Suspended}
use Rattle.transfer_journal.specs.declared.noted.NotedReceiver.{NotedReceiver}
use Rattle.transfer_journal.specs.declared.noted.NotedSender.{NotedSender}

-- a fact that holds and isn't noted
abbrev pub new_fact : (is was : Bool) → JournalRecord → Option JournalRecord
new_fact true false r = Some r
new_fact _ _ r = None

abbrev pub suspended_fact : TransactionId → (is was : Bool) → Option JournalRecord
suspended_fact id true false = Some (Suspended id true)
suspended_fact id false true = Some (Suspended id false)
suspended_fact id _ _ = None

abbrev pub is_cancelling : SenderPhase → Bool
is_cancelling sender.Cancelling = true
is_cancelling _ = false

abbrev pub is_closed : SenderPhase → Bool
is_closed sender.Closed = true
is_closed _ = false

abbrev pub sender_facts : TransactionId → SenderState → NotedSender → List JournalRecord
sender_facts id x n =
    option_to_list (new_fact x.eof_taken n.eof_taken (EofTaken id))
    ++ (option_to_list (suspended_fact id x.suspended n.is_suspended)
    ++ (option_to_list (new_fact (is_cancelling x.phase) n.is_cancelling (Cancelling id x.condition))
    ++ option_to_list (new_fact (is_closed x.phase) n.is_closed (Closed id None))))

abbrev pub sender_noted : SenderState → ℕ → NotedSender
sender_noted x sent = record {
  sent = sent;
  eof_taken = x.eof_taken;
  is_cancelling = is_cancelling x.phase;
  is_suspended = x.suspended;
  is_closed = is_closed x.phase;
}

-- something that is known and isn't noted
abbrev pub new_known : {A : Type 0} → (A → JournalRecord) → Option A → Bool → Option JournalRecord
new_known says (Some x) false = Some (says x)
new_known says _ _ = None

abbrev pub ended : TransactionId → ReceiverPhase → Option Outcome → Option JournalRecord
ended id receiver.Receiving outcome = None
ended id receiver.Finishing (Some outcome) = Some (Finishing id outcome)
ended id receiver.Finishing None = Some (Closed id None)
ended id receiver.Closed outcome = Some (Closed id outcome)

abbrev pub is_phase : (a b : ReceiverPhase) → Bool
is_phase receiver.Receiving receiver.Receiving = true
is_phase receiver.Finishing receiver.Finishing = true
is_phase receiver.Closed receiver.Closed = true
is_phase _ _ = false

abbrev pub end_fact : TransactionId → (is was : ReceiverPhase) → Option Outcome →
    Option JournalRecord
end_fact id is was outcome = if is_phase is was then None else ended id is outcome

abbrev pub receiver_facts : TransactionId → ReceiverState → NotedReceiver → List JournalRecord
receiver_facts id x n =
    option_to_list (new_fact x.large n.is_large (Held id true []))
    ++ (option_to_list (new_known (HeardMetadata id) x.metadata n.has_metadata)
    ++ (option_to_list (new_known (HeardEof id) x.ending n.has_ending)
    ++ (option_to_list (suspended_fact id x.suspended n.is_suspended)
    ++ option_to_list (end_fact id x.phase n.phase x.outcome))))

abbrev pub receiver_noted : ReceiverState → NotedReceiver → NotedReceiver
receiver_noted x n = record n {
  has_metadata = n.has_metadata || is_some x.metadata;
  has_ending = n.has_ending || is_some x.ending;
  phase = x.phase;
  is_suspended = x.suspended;
  is_large = n.is_large || x.large;
}
