-- Proof-only: how a sender is kept.
use Rattle.std.specs.Prelude.{◌≡◌, Bool, true, false}
use Rattle.cfdp_sender.specs.declared.sender.Sender.TheInside.{Inside}
use Rattle.cfdp_sender.specs.declared.phase.SenderPhase.{SenderPhase}
use Rattle.cfdp_sender.specs.declared.phase.SenderPhase.TheVariants.{Sending, Cancelling, Closed}
use Rattle.cfdp_sender.specs.State.{SenderState, IsSender}

abbrev pub state_of : Inside → SenderState
state_of s = record {
  addressing = s.addressing;
  checksum_kind = s.checksum_kind;
  segment = s.segment;
  source = s.names.source;
  destination = s.names.destination;
  size = s.size;
  phase = s.phase;
  suspended = s.suspended;
  sent = s.sent;
  sums = s.sums;
  asked = s.asked;
  metadata_due = s.metadata_due;
  prompt_due = s.prompt_due;
  eof_due = s.eof_due;
  eof_taken = s.eof_taken;
  acknowledged = s.acknowledged;
  ack_due = s.ack_due;
  condition = s.condition;
  count = s.count;
}

-- Memory must have the names while the file is sent, and no longer if the transaction is closed.
abbrev pub KeepsNames : SenderPhase → Bool → Type 0
KeepsNames Sending kept = kept ≡ true
KeepsNames Cancelling kept = Unit {0}
KeepsNames Closed kept = kept ≡ false

-- It is a sender, and memory has the names if they are needed.
pub record IsInside (s : Inside) : Type 0 where
  pub sender : IsSender (state_of s)
  pub names : KeepsNames s.phase s.names.kept
