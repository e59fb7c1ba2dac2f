-- A timer of a sender that expires, and a call of its user, keep its put on its course as long as
-- nothing spoils it.
use Rattle.std.proofs.Common.{◌≡◌, ◌≢◌, ℕ, Bool, true, false, List, [], Option, Some, None, refl, sym}
use Rattle.std.proofs.lemmas.Bool.{both_ways, cond_both, or_left, or_right, and_from}
use Rattle.cfdp_header.specs.Ids.{same_id}
use Rattle.cfdp_entity.proofs.Entries.{same_id-itself}
use Rattle.cfdp_timers.specs.declared.kind.Kind.{Kind}
use Rattle.cfdp_timers.specs.declared.kind.Kind.TheVariants.{EofAck, Nak, FinishedAck, Inactivity}
use Rattle.cfdp_directives.specs.declared.user.handler.Handler.{Handler}
use Rattle.cfdp_directives.specs.declared.user.handler.Handler.TheVariants.{Cancel, Suspend, Ignore, Abandon}
use Rattle.cfdp_directives.specs.declared.user.indication.Indication.{Indication}
use Rattle.cfdp_directives.specs.declared.user.policy.Policy.{Policy}
use Rattle.cfdp_directives.specs.Pdu.Codes.{positive_ack_limit}
use Rattle.cfdp_directives.specs.User.Policy.{another_try, fault_told}
use Rattle.cfdp_directives.specs.Pdu.Content.{Content}
use Rattle.cfdp_directives.specs.User.Put.{Put}
use Rattle.cfdp_sender.specs.declared.phase.SenderPhase.{SenderPhase}
use Rattle.cfdp_sender.specs.declared.phase.SenderPhase.TheVariants.{Sending, Cancelling, Closed}
use Rattle.cfdp_sender.specs.InFile.{IsInFile}
use Rattle.cfdp_sender.specs.Inputs.{IsSenderOf}
use Rattle.cfdp_sender.specs.State.{SenderState}
use Rattle.cfdp_sender.specs.Steps.{SenderAfter, quiet, sends_again, unacknowledged_in, unheard, expires, sender_waits, sender_expires, cancels_in, suspends_in, resumes_in, prompts_in}
use Rattle.cfdp_receiver.specs.State.{ReceiverState}
use Rattle.cfdp_entity.specs.declared.request.Request.{Request}
use Rattle.cfdp_entity.specs.declared.request.Request.TheVariants as call
use Rattle.cfdp_entity.specs.Steps.{called_sender}
use Rattle.link_sim.specs.Course.{IsCourse}
use Rattle.link_sim.specs.Waiting.{spoils, one_tells}
use Rattle.link_sim.proofs.Course.Laws.{TellsWell, told_with}
use Rattle.link_sim.proofs.Course.SenderStays.{stays-course, itself-stays}

module _ (put : Put) (awake acks files ends : Bool) (x : SenderState) (o : Option ReceiverState) (forth back : List Content) (b c : Bool) (s : IsSenderOf put x)
    (k : IsCourse put awake acks files ends x o forth back b c) where
  -- what a step comes to that indicates nothing bad and doesn't cancel
  abbrev AfterIf : SenderAfter → Type 0
  AfterIf a = TellsWell put awake a.told → a.sender.phase ≢ Cancelling → IsCourse put awake acks files ends a.sender o forth back (told_with put b a.told) c

  own : same_id put.id x.addressing.id ≡ true
  own = same_id-itself put.id x.addressing.id (sym s.id)

  itself : (told : List Indication) → IsCourse put awake acks files ends x o forth back (told_with put b told) c
  itself told = stays-course put awake acks files ends o forth c x x back b told (itself-stays x) k.truth.acknowledged (λ g. g.due) (λ _ h. h) k

  counted : (count : ℕ) (due : Bool) (told : List Indication) → (x.eof_due ≡ true → due ≡ true) →
      IsCourse put awake acks files ends (record x { count = count; eof_due = due }) o forth back (told_with put b told) c
  counted count due told still = stays-course put awake acks files ends o forth c x (record x { count = count; eof_due = due }) back b told
      (record { size = refl; sent = refl; phase = refl; eof = refl; ack = refl; metadata = λ h. h; octets = λ n h. h; acknowledged = λ h. h }) k.truth.acknowledged (λ g. still g.due) (λ _ h. h) k

  -- suspended or resumed
  paused : (suspended : Bool) (count : ℕ) (told : List Indication) → (awake ≡ true → suspended ≡ false) →
      IsCourse put awake acks files ends (record x { suspended = suspended; count = count }) o forth back (told_with put b told) c
  paused suspended count told active = stays-course put awake acks files ends o forth c x (record x { suspended = suspended; count = count }) back b told
      (record { size = refl; sent = refl; phase = refl; eof = refl; ack = refl; metadata = λ h. h; octets = λ n h. h; acknowledged = λ h. h }) k.truth.acknowledged (λ g. g.due) (λ g _. active g) k

  -- ---- timers
  fault-spoils : (handler : Handler) → one_tells (spoils put.id) (fault_told handler x.addressing.id positive_ack_limit) ≡ true
  fault-spoils Cancel = or_left _ _ (and_from (same_id put.id x.addressing.id) true own refl)
  fault-spoils Suspend = or_left _ _ (and_from (same_id put.id x.addressing.id) true own refl)
  fault-spoils Ignore = or_left _ _ (and_from (same_id put.id x.addressing.id) true own refl)
  fault-spoils Abandon = or_left _ _ (and_from (same_id put.id x.addressing.id) true own refl)

  unacknowledged-course : (phase : SenderPhase) (handler : Handler) → AfterIf (unacknowledged_in phase handler x)
  unacknowledged-course Sending handler w n = absurd (both_ways _ w.good (fault-spoils handler))
  unacknowledged-course Cancelling handler w n = absurd (both_ways _ w.good (fault-spoils Abandon))
  unacknowledged-course Closed handler w n = absurd (both_ways _ w.good (fault-spoils Abandon))

  again-course : (try : Option ℕ) (handler : Handler) → AfterIf (sends_again try handler x)
  again-course (Some count) handler w n = counted count true [] (λ _. refl)
  again-course None handler w n = unacknowledged-course x.phase handler w n

  unheard-course : (handler : Handler) → AfterIf (unheard handler x)
  unheard-course Cancel w n = absurd (n refl)
  unheard-course Suspend w n = paused true x.count (unheard Suspend x).told (λ g. absurd (both_ways _ (w.unpaused g) (or_left _ false own)))
  unheard-course Ignore w n = counted 0 x.eof_due (unheard Ignore x).told (λ h. h)
  unheard-course Abandon w n = absurd (both_ways _ w.good (or_right _ _ (or_left _ false own)))

  expires-course : (kind : Kind) (policy : Policy) → AfterIf (expires kind policy x)
  expires-course EofAck policy w n = again-course (another_try x.count policy.limits.eof) policy.handlers.ack w n
  expires-course Inactivity policy w n = unheard-course policy.handlers.inactivity w n
  expires-course Nak policy w n = itself []
  expires-course FinishedAck policy w n = itself []

  expired-course : (kind : Kind) (policy : Policy) → AfterIf (sender_expires kind policy x)
  expired-course kind policy = cond_both (sender_waits kind x) (expires kind policy x) (quiet x) AfterIf (λ _. expires-course kind policy) (λ _ _ _. itself [])

  -- ---- calls
  cancels-course : (phase : SenderPhase) → AfterIf (cancels_in phase x)
  cancels-course Sending w n = absurd (n refl)
  cancels-course Cancelling w n = itself []
  cancels-course Closed w n = itself []

  suspends-course : (phase : SenderPhase) (suspended : Bool) → AfterIf (suspends_in phase suspended x)
  suspends-course Sending false w n = paused true x.count (suspends_in Sending false x).told (λ g. absurd (both_ways _ (w.unpaused g) (or_left _ false own)))
  suspends-course Sending true w n = itself []
  suspends-course Cancelling suspended w n = itself []
  suspends-course Closed suspended w n = itself []

  resumes-course : (phase : SenderPhase) (suspended : Bool) → AfterIf (resumes_in phase suspended x)
  resumes-course Sending true w n = paused false 0 (resumes_in Sending true x).told (λ _. refl)
  resumes-course Sending false w n = itself []
  resumes-course Cancelling suspended w n = itself []
  resumes-course Closed suspended w n = itself []

  prompts-course : (phase : SenderPhase) (prompt : Option Bool) (keep_alive : Bool) → AfterIf (prompts_in phase prompt keep_alive x)
  prompts-course Sending None keep_alive w n = stays-course put awake acks files ends o forth c x (record x { prompt_due = Some keep_alive }) back b []
      (record { size = refl; sent = refl; phase = refl; eof = refl; ack = refl; metadata = λ h. h; octets = λ n h. h; acknowledged = λ h. h }) k.truth.acknowledged (λ g. g.due) (λ _ h. h) k
  prompts-course Sending (Some prompt) keep_alive w n = itself []
  prompts-course Cancelling prompt keep_alive w n = itself []
  prompts-course Closed prompt keep_alive w n = itself []

  called-course : (what : Request) → AfterIf (called_sender what x)
  called-course call.Cancel = cancels-course x.phase
  called-course call.Suspend = suspends-course x.phase x.suspended
  called-course call.Resume = resumes-course x.phase x.suspended
  called-course (call.Prompt keep_alive) = prompts-course x.phase x.prompt_due keep_alive

-- ---- the lemmas
pub sender-expires : (put : Put) (awake acks files ends : Bool) (x : SenderState) (o : Option ReceiverState) (forth back : List Content) (b c : Bool) (k : Kind) (policy : Policy) → IsSenderOf put x →
    IsInFile x →
    let a = sender_expires k policy x in IsCourse put awake acks files ends x o forth back b c → TellsWell put awake a.told → a.sender.phase ≢ Cancelling →
    IsCourse put awake acks files ends a.sender o forth back (told_with put b a.told) c
sender-expires put awake acks files ends x o forth back b c kind policy s f k w n = expired-course put awake acks files ends x o forth back b c s k kind policy w n

pub sender-called : (put : Put) (awake acks files ends : Bool) (x : SenderState) (o : Option ReceiverState) (forth back : List Content) (b c : Bool) (call : Request) → IsSenderOf put x → IsInFile x →
    let a = called_sender call x in IsCourse put awake acks files ends x o forth back b c → TellsWell put awake a.told → a.sender.phase ≢ Cancelling →
    IsCourse put awake acks files ends a.sender o forth back (told_with put b a.told) c
sender-called put awake acks files ends x o forth back b c what s f k w n = called-course put awake acks files ends x o forth back b c s k what w n
