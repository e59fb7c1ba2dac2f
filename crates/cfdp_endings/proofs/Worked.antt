-- Worked instances: the bounds are met, so they can't be less; and why a fault that is ignored is left out.
use Rattle.std.proofs.Common.{◌≡◌, true, false, List, [], ◌∷◌, Some, None, refl}
use Rattle.std.specs.FinMap as map
use Rattle.std.specs.FinSet as set
use Rattle.cfdp_timers.specs.declared.kind.Kind.{Kind}
use Rattle.cfdp_timers.specs.declared.kind.Kind.TheVariants.{EofAck, FinishedAck, Nak, Inactivity}
use Rattle.cfdp_directives.specs.declared.user.handler.Handler.TheVariants.{Cancel, Ignore}
use Rattle.cfdp_directives.specs.declared.user.policy.Policy.{Policy}
use Rattle.cfdp_directives.specs.User.Limits.{default_times}
use Rattle.cfdp_directives.specs.Pdu.Codes.{nak_limit}
use Rattle.cfdp_store.specs.declared.stored.Stored.TheVariants.{Done}
use Rattle.cfdp_sender.specs.declared.due.SenderDue.TheVariants as sending
use Rattle.cfdp_sender.specs.declared.phase.SenderPhase.TheVariants as sender_phases
use Rattle.cfdp_sender.specs.State.{SenderState}
use Rattle.cfdp_sender.specs.Inputs.{SenderInput, Sends, Expires, sender_step}
use Rattle.cfdp_receiver.specs.declared.state.ReceiverPhase.TheVariants as receiver_phases
use Rattle.cfdp_receiver.specs.declared.due.Due.TheVariants as answers
use Rattle.cfdp_receiver.specs.Due.{receiver_taken}
use Rattle.cfdp_receiver.specs.State.{ReceiverState}
use Rattle.cfdp_receiver.specs.Steps as receiver
use Rattle.cfdp_endings.specs.Sender.{sender_open, sender_left}
use Rattle.cfdp_endings.specs.Receiver.{receiver_left, receiver_open}

-- once each is sent again
abbrev policy : Policy
policy = record { limits = record { eof = 1; nak = 1; finished = 1 }; times = default_times; handlers = record { ack = Cancel; nak = Cancel; inactivity = Cancel }; most_gaps = None }

-- ---- a sender of an empty file, whose EOF was sent and isn't acknowledged
abbrev waiting : SenderState → SenderState
waiting x = record x {
  phase = sender_phases.Sending;
  suspended = false;
  size = 0;
  sent = 0;
  segment = 1;
  asked = set.empty;
  metadata_due = false;
  prompt_due = None;
  eof_due = false;
  eof_taken = true;
  acknowledged = false;
  ack_due = None;
  count = 0;
}

abbrev ran : List SenderInput → SenderState → SenderState
ran [] x = x
ran (i ∷ is) x = ran is (sender_step policy [] i x).sender

-- EOF is sent again after an expiry, the next expiry cancels, and so again
abbrev three : List SenderInput
three = Expires EofAck ∷ Sends Done sending.Eof ∷ Expires EofAck ∷ Sends Done sending.Eof ∷ Expires EofAck ∷ Sends Done sending.Eof ∷ []

abbrev four : List SenderInput
four = Expires EofAck ∷ Sends Done sending.Eof ∷ Expires EofAck ∷ Sends Done sending.Eof ∷ Expires EofAck ∷ Sends Done sending.Eof ∷ Expires EofAck ∷ []

four-left : (x : SenderState) → sender_left policy.limits (waiting x) ≡ 4
four-left x = refl

three-open : (x : SenderState) → sender_open (ran three (waiting x)) ≡ true
three-open x = refl

four-closed : (x : SenderState) → (ran four (waiting x)).phase ≡ sender_phases.Closed
four-closed x = refl

-- ---- a receiver that misses something, and to which no NAK is due
abbrev lacking : ReceiverState → ReceiverState
lacking r = record r {
  phase = receiver_phases.Receiving;
  suspended = false;
  metadata = None;
  ending = Some (record { checksum = 0; size = 0 });
  held = set.empty;
  ack_due = None;
  nak_cursor = None;
  keep_alive_due = false;
  finished_due = false;
  finished_taken = false;
  outcome = None;
  nak_count = 0;
  finished_count = 0;
}

receiver-left : (r : ReceiverState) → receiver_left policy.limits (lacking r) ≡ 4
receiver-left r = refl

-- ---- if inactivity is ignored, each of its expiries begins the count of NAKs again
abbrev ignoring : Policy
ignoring = record { limits = record { eof = 1; nak = 1; finished = 1 }; times = default_times; handlers = record { ack = Cancel; nak = Cancel; inactivity = Ignore }; most_gaps = None }

-- the NAK's timer expires, its NAK is sent, and Inactivity expires
abbrev around : ReceiverState → ReceiverState
around r =
    let a : receiver.ReceiverAfter = receiver.expires Nak ignoring map.empty map.empty r in
    let b : ReceiverState = record a.receiver { nak_cursor = None } in
    (receiver.expires Inactivity ignoring map.empty map.empty b).receiver

-- so it comes around to where it was, as often as one likes
around-same : (r : ReceiverState) → around (lacking r) ≡ lacking r
around-same r = refl

-- ---- that receiver, by its limits: its NAK is sent, which has all to ask for that is missing
abbrev asked : ReceiverState → ReceiverState
asked r = record r { nak_cursor = None }

abbrev expired : Kind → ReceiverState → ReceiverState
expired k r = (receiver.expires k policy map.empty map.empty r).receiver

abbrev sent : ReceiverState → ReceiverState
sent r = receiver_taken (answers.Finished (receiver.failed nak_limit)) r

abbrev third : ReceiverState → ReceiverState
third r = sent (expired FinishedAck (sent (expired Nak (asked (expired Nak r)))))

receiver-open : (r : ReceiverState) → receiver_open (third (lacking r)) ≡ true
receiver-open r = refl

receiver-closed : (r : ReceiverState) → (expired FinishedAck (third (lacking r))).phase ≡ receiver_phases.Closed
receiver-closed r = refl
