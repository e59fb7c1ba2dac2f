-- What a transaction waits for that stands still, and that it is complete if it waits for nothing.
use Rattle.std.proofs.Common.{◌≡◌, ◌≢◌, ◌&&◌, ◌||◌, not, Bool, true, false, Option, Some, None, is_some, is_none, refl, sym, ap, subst, ◌∙◌}
use Rattle.std.proofs.lemmas.Bool.{false≢true, both_ways, and_from, true_from_ne_false}
use Rattle.cfdp_directives.specs.declared.user.limits.Limits.{Limits}
use Rattle.cfdp_directives.specs.User.Put.{Put}
use Rattle.cfdp_timers.specs.declared.kind.Kind.{Kind}
use Rattle.cfdp_timers.specs.declared.kind.Kind.TheVariants.{EofAck, Nak, FinishedAck, Inactivity}
use Rattle.cfdp_sender.specs.declared.phase.SenderPhase.{SenderPhase}
use Rattle.cfdp_sender.specs.declared.phase.SenderPhase.TheVariants as sending
use Rattle.cfdp_sender.specs.State.{SenderState}
use Rattle.cfdp_sender.specs.Steps.{sender_waits, waits_for_eof_ack}
use Rattle.cfdp_receiver.specs.declared.state.ReceiverPhase.{ReceiverPhase}
use Rattle.cfdp_receiver.specs.declared.state.ReceiverPhase.TheVariants as receiving
use Rattle.cfdp_receiver.specs.Due.{phase_due}
use Rattle.cfdp_receiver.specs.State.{ReceiverState, is_finishing}
use Rattle.cfdp_receiver.specs.Steps.{waits, waits_in}
use Rattle.link_sim.specs.Course.{IsReceiverTrue, IsMaybeTrue, IsActive}
use Rattle.link_sim.specs.Exchange.{once_ended, knows_ending, has_ended, if_ended, has_finished, is_closed_in, is_closed, maybe}
use Rattle.link_sim.specs.Runs.{Exchange}
use Rattle.link_sim.specs.Stages.{NothingDue, IsAtRest, IsActiveCourse, Stands, IsCompleteExchange}
use Rattle.link_sim.proofs.Course.Ends.{HasSent, has-sent, ack-none, cursor-none, finishing-none}
use Rattle.link_sim.proofs.Course.Laws as laws

pub nothing-due : (o : Option ReceiverState) → NothingDue o → laws.NothingDue o
nothing-due (Some r) n = n
nothing-due None n = tt

-- ---- what it waits for
module _ (put : Put) (a : Exchange) (c : IsActiveCourse put a) (rests : IsAtRest a) where
  active : IsActive a.sender a.receiver
  active = c.active refl

  pub sent : a.sender.phase ≡ sending.Sending → HasSent a.sender
  sent is = has-sent a.sender active.sender is rests.sender

  pub eof-waits : a.sender.phase ≡ sending.Sending → a.sender.acknowledged ≡ false → sender_waits EofAck a.sender ≡ true
  eof-waits is unanswered =
      let x : SenderState = a.sender in
      let s : HasSent x = sent is in
      and_from (not x.suspended) (waits_for_eof_ack x.phase x) (ap not active.sender)
      (ap (λ p. waits_for_eof_ack p x) is
      ∙ and_from (x.eof_taken && not x.eof_due) (not x.acknowledged) (and_from x.eof_taken (not x.eof_due) s.taken (ap not s.due)) (ap not unanswered))

  module _ (r : ReceiverState) (is : a.receiver ≡ Some r) where
    pub awake : r.suspended ≡ false
    awake = sym (ap (maybe (λ r. r.suspended)) is) ∙ active.receiver

    pub is-true : IsReceiverTrue put r
    is-true = subst (IsMaybeTrue put) is c.truth.receiver

    pub due-none : (r.ack_due ≡ None) × (phase_due r.phase r ≡ None)
    due-none = ack-none r awake (subst NothingDue is rests.receiver)

    pub nak-waits : r.phase ≡ receiving.Receiving → is_some r.ending ≡ true → waits Nak r ≡ true
    nak-waits phase known =
        let cursor : r.nak_cursor ≡ None = cursor-none r is-true.tidy phase due-none.1 in
        and_from (not r.suspended) (waits_in r.phase Nak r) (ap not awake)
        (ap (λ p. waits_in p Nak r) phase ∙ and_from (is_some r.ending) (is_none r.nak_cursor) known (ap is_none cursor))

    pub unowed : r.phase ≡ receiving.Finishing → r.finished_due ≡ false
    unowed phase = finishing-none r phase is-true.well due-none.1

    pub end-waits : r.phase ≡ receiving.Finishing → waits FinishedAck r ≡ true
    end-waits phase =
        let owes : (not true || ((r.finished_due || r.finished_taken) && is_some r.outcome)) ≡ true =
        sym (ap (λ p. not (is_finishing p) || ((r.finished_due || r.finished_taken) && is_some r.outcome)) phase) ∙ is-true.owes in
        let taken : r.finished_taken ≡ true = by r.finished_due r.finished_taken (is_some r.outcome) (unowed phase) owes in
        and_from (not r.suspended) (waits_in r.phase FinishedAck r) (ap not awake)
        (ap (λ p. waits_in p FinishedAck r) phase ∙ and_from r.finished_taken (not r.finished_due) taken (ap not (unowed phase)))
      where
        by : (due taken some : Bool) → due ≡ false → ((due || taken) && some) ≡ true → taken ≡ true
        by true taken some isnt h = absurd (false≢true (sym isnt))
        by false true some isnt h = refl
        by false false some isnt h = absurd (false≢true h)

  -- ---- if it waits for nothing
  module _ (unwaited : (k : Kind) → k ≢ Inactivity → sender_waits k a.sender ≡ false)
      (unwaited_there : (r : ReceiverState) → a.receiver ≡ Some r → (k : Kind) → k ≢ Inactivity → waits k r ≡ false) where
    -- the receiver is closed, unless it misses something and knows no EOF
    closed-if : (r : ReceiverState) → a.receiver ≡ Some r → (phase : ReceiverPhase) → r.phase ≡ phase → once_ended phase (is_some r.ending) ≡ true → r.phase ≡ receiving.Closed
    closed-if r is receiving.Receiving phase known = absurd (both_ways (waits Nak r) (unwaited_there r is Nak (λ e. cc)) (nak-waits r is phase known))
    closed-if r is receiving.Finishing phase known = absurd (both_ways (waits FinishedAck r) (unwaited_there r is FinishedAck (λ e. cc)) (end-waits r is phase))
    closed-if r is receiving.Closed phase known = phase

    complete-if : (o : Option ReceiverState) → a.receiver ≡ o → maybe knows_ending o ≡ true → IsCompleteExchange a
    complete-if None is known = absurd (false≢true known)
    complete-if (Some r) is known =
        let over : r.phase ≡ receiving.Closed = closed-if r is r.phase refl known in
        let there : maybe is_closed a.receiver ≡ true = ap (maybe is_closed) is ∙ ap is_closed_in over in
        let here : a.sender.phase ≡ sending.Closed = c.truth.closed there in
        record {
          sender = here;
          receiver = there;
          told = c.truth.sender_told here;
          told_there = c.truth.receiver_told (ap (maybe has_ended) is ∙ ap (λ p. once_ended p false) over);
        }

    -- what has sent a Finished knows the EOF
    finished-knows : (o : Option ReceiverState) → maybe has_finished o ≡ true → maybe knows_ending o ≡ true
    finished-knows None h = absurd (false≢true h)
    finished-knows (Some r) h = by r.phase h
      where
        by : (phase : ReceiverPhase) → if_ended phase r.finished_taken ≡ true → once_ended phase (is_some r.ending) ≡ true
        by receiving.Receiving h = absurd (false≢true h)
        by receiving.Finishing h = refl
        by receiving.Closed h = refl

    waits-none : (phase : SenderPhase) → a.sender.phase ≡ phase → IsCompleteExchange a
    waits-none sending.Sending is = complete-if a.receiver refl (c.truth.acknowledged
        (true_from_ne_false a.sender.acknowledged (λ none. both_ways (sender_waits EofAck a.sender) (unwaited EofAck (λ e. cc)) (eof-waits is none))))
    waits-none sending.Cancelling is = absurd (c.truth.not_cancelled is)
    waits-none sending.Closed is = complete-if a.receiver refl (finished-knows a.receiver (c.truth.over is))

-- A transaction that stands still, and waits for nothing but, at most, that something comes, is
-- complete.
pub stands-complete : (here there : Limits) (put : Put) (a : Exchange) → Stands here there put a
    → ((k : Kind) → k ≢ Inactivity → sender_waits k a.sender ≡ false)
    → ((r : ReceiverState) → a.receiver ≡ Some r → (k : Kind) → k ≢ Inactivity → waits k r ≡ false) → IsCompleteExchange a
stands-complete here there put a s unwaited unwaited_there = waits-none put a s.course s.rests unwaited unwaited_there a.sender.phase refl
