-- What is noted of a sender and of a receiver, beside what the station has of it.
use Rattle.std.specs.Prelude.{◌≡◌, ◌≢◌, ◌&&◌, Bool, true, false, Option, None, Some, IsSome, if◌then◌else◌, not}
use Rattle.std.specs.FinSet as set
use Rattle.cfdp_sender.specs.State.{SenderState, transfer_of}
use Rattle.cfdp_sender.specs.declared.phase.SenderPhase.{SenderPhase}
use Rattle.cfdp_sender.specs.declared.phase.SenderPhase.TheVariants as sender
use Rattle.cfdp_sender.specs.declared.restoring.CommittedSender.{CommittedSender}
use Rattle.cfdp_receiver.specs.State.{ReceiverState, is_receiving}
use Rattle.cfdp_receiver.specs.declared.state.ReceiverPhase.TheVariants as receiver
use Rattle.transfer_journal.specs.declared.kept.KeptReceiver.{KeptReceiver}
use Rattle.transfer_journal.specs.declared.kept.KeptSender.{KeptSender}
use Rattle.transfer_journal.specs.declared.noted.NotedReceiver.{NotedReceiver}
use Rattle.transfer_journal.specs.declared.noted.NotedSender.{NotedSender}
use Rattle.transfer_journal.specs.Kept.{is_sending, kept_phase}

-- ---- a sender
-- how far a sender has come, as it is noted
abbrev pub noted_phase : NotedSender → SenderPhase
noted_phase n =
    if n.is_closed then sender.Closed else (if n.is_cancelling then sender.Cancelling else sender.Sending)

-- What is kept of a sender is what is noted of it. What isn't noted is as the sender has it: what
-- it sends, and why it is cancelled.
pub record KeepsSender (n : NotedSender) (x : SenderState) (s : KeptSender) : Type 0 where
  pub transfer : s.transfer ≡ transfer_of x
  pub sent : s.sent ≡ n.sent
  pub eof_taken : s.eof_taken ≡ n.eof_taken
  pub suspended : s.is_suspended ≡ n.is_suspended
  pub phase : kept_phase s ≡ noted_phase n
  pub cause : noted_phase n ≡ sender.Cancelling → s.cancelled_for ≡ Some x.condition

-- what is noted of a put that was just accepted
abbrev pub put_noted : NotedSender
put_noted = record {
  sent = 0;
  eof_taken = false;
  is_cancelling = false;
  is_suspended = false;
  is_closed = false;
}

-- Since a sender was noted so, it hasn't gone back.
pub record SenderGoesOn (n : NotedSender) (x : SenderState) : Type 0 where
  pub eof_taken : n.eof_taken ≡ true → x.eof_taken ≡ true
  pub cancelled : noted_phase n ≡ sender.Cancelling → x.phase ≢ sender.Sending
  pub closed : noted_phase n ≡ sender.Closed → x.phase ≡ sender.Closed

-- What is restored of a sender is what a station has of it, except that an EOF that was
-- acknowledged is sent again. Why it was cancelled counts while it is.
pub record RestoresAs (x : SenderState) (c : CommittedSender) : Type 0 where
  pub transfer : c.transfer ≡ transfer_of x
  pub phase : c.phase ≡ x.phase
  pub suspended : c.suspended ≡ (x.suspended && is_sending x.phase)
  pub eof_taken : c.eof_taken ≡ x.eof_taken
  pub acknowledged : c.acknowledged ≡ false
  pub condition : x.phase ≡ sender.Cancelling → c.condition ≡ x.condition

-- ---- a receiver
-- this, if it is noted
abbrev pub if_noted : {A : Type 0} → Bool → Option A → Option A
if_noted is x = if is then x else None

-- What is kept of a receiver is what is noted of it. What isn't noted is as the receiver has it.
pub record KeepsReceiver (n : NotedReceiver) (x : ReceiverState) (r : KeptReceiver) : Type 0 where
  pub addressing : r.addressing ≡ x.addressing
  pub large : r.large ≡ n.is_large
  pub metadata : r.metadata ≡ if_noted n.has_metadata x.metadata
  pub ending : r.ending ≡ if_noted n.has_ending x.ending
  pub suspended : r.is_suspended ≡ n.is_suspended
  pub phase : r.phase ≡ n.phase
  pub outcome : r.outcome ≡ if_noted (not (is_receiving n.phase)) x.outcome
  pub held : r.held ≡ n.held

-- what is noted of a receiver that was just opened
abbrev pub opened_noted : (large : Bool) → NotedReceiver
opened_noted large = record {
  has_metadata = false;
  has_ending = false;
  phase = receiver.Receiving;
  is_suspended = false;
  is_large = large;
  held = set.empty;
}

-- Since a receiver was noted so, it hasn't gone back. It is suspended only while it receives, and
-- has an outcome only once it is over.
pub record ReceiverGoesOn (n : NotedReceiver) (x : ReceiverState) : Type 0 where
  pub large : n.is_large ≡ true → x.large ≡ true
  pub phase : x.phase ≡ receiver.Receiving → n.phase ≡ receiver.Receiving
  pub outcome : x.phase ≡ receiver.Finishing → IsSome x.outcome
  pub suspended : x.suspended ≡ true → x.phase ≡ receiver.Receiving
  pub unended : x.phase ≡ receiver.Receiving → x.outcome ≡ None
