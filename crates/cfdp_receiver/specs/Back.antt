-- How a receiver is restored from what a journal keeps of it.
use Rattle.std.specs.Prelude.{◌≡◌, ◌≤◌, ℕ, true, Option, Some, None, IfSome}
use Rattle.cfdp_directives.specs.declared.pdu.sums.Checksums.{Checksums}
use Rattle.cfdp_directives.specs.Pdu.Addressing.{FitsAddressing}
use Rattle.cfdp_directives.specs.Pdu.Codes.{size_limit}
use Rattle.cfdp_extents.specs.Offsets.{Offsets}
use Rattle.cfdp_receiver.specs.declared.restoring.CommittedReceiver.{CommittedReceiver}
use Rattle.cfdp_receiver.specs.declared.state.Ending.{Ending}
use Rattle.cfdp_receiver.specs.declared.state.ReceiverPhase.{ReceiverPhase}
use Rattle.cfdp_receiver.specs.declared.state.ReceiverPhase.TheVariants.{Receiving, Finishing, Closed}
use Rattle.cfdp_receiver.specs.Missing.{tidied}
use Rattle.cfdp_receiver.specs.State.{ReceiverState, opened_receiver}

-- what a journal keeps of a receiver, except what it holds of its file
abbrev pub committed_of : ReceiverState → CommittedReceiver
committed_of r = record {
  addressing = r.addressing;
  large = r.large;
  phase = r.phase;
  suspended = r.suspended;
  metadata = r.metadata;
  ending = r.ending;
  outcome = r.outcome;
}

-- a receiver that knows this, and holds nothing of its file
abbrev pub committed : CommittedReceiver → ReceiverState
committed c = record (opened_receiver c.addressing) {
  large = c.large;
  phase = c.phase;
  suspended = c.suspended;
  metadata = c.metadata;
  ending = c.ending;
  outcome = c.outcome;
}

-- What a journal keeps of a receiver is in its ranges: the transaction can be written in its
-- widths, it is suspended only while it receives, and its file isn't too long.
pub record IsCommitted (c : CommittedReceiver) : Type 0 where
  pub addressing : FitsAddressing c.addressing
  pub suspended : c.suspended ≡ true → c.phase ≡ Receiving
  pub size : IfSome c.ending (λ e. e.size ≤ size_limit c.large)

-- once the EOF is known, all that is missing is asked for
abbrev pub asks_anew : Option Ending → Option ℕ
asks_anew (Some ending) = Some 0
asks_anew None = None

-- A receiver is restored with what is held of its file, and the sums of that. No ACK of EOF is due,
-- since the EOF is sent again; a Finished is due again, and counts as sent.
abbrev pub received_in : ReceiverPhase → Offsets → Checksums → CommittedReceiver → ReceiverState
received_in Receiving held sums c = tidied (record (committed c) {
  held = held;
  sums = sums;
  nak_cursor = asks_anew c.ending;
})
received_in Finishing held sums c =
    record (committed c) { finished_due = true; finished_taken = true }
received_in Closed held sums c = committed c

abbrev pub received_from : Offsets → Checksums → CommittedReceiver → ReceiverState
received_from held sums c = received_in c.phase held sums c

-- the same, from what was committed of a receiver
abbrev pub received_back : Offsets → Checksums → ReceiverState → ReceiverState
received_back held sums r = received_from held sums (committed_of r)
