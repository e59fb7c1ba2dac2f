-- A transaction that waits, as it is tracked from there, and what it is in the end.
use Rattle.std.proofs.Common.{not, ◌≡◌, ◌⊎◌, inl, inr, ℕ, suc, ◌+◌, ◌<◌, ◌≤◌, Bool, true, false, Option, Some, None, refl, sym, ap, subst, ◌∙◌, arith}
use Rattle.std.proofs.lemmas.Bool.{false≢true, both_ways}
use Rattle.cfdp_header.specs.declared.value.TransactionId.{TransactionId}
use Rattle.cfdp_directives.specs.User.Put.{Put}
use Rattle.cfdp_timers.specs.declared.kind.Kind.{Kind}
use Rattle.cfdp_timers.specs.declared.kind.Kind.TheVariants.{EofAck, Nak, FinishedAck}
use Rattle.cfdp_sender.specs.declared.phase.SenderPhase.{SenderPhase}
use Rattle.cfdp_sender.specs.declared.phase.SenderPhase.TheVariants as sending
use Rattle.cfdp_receiver.specs.declared.state.ReceiverPhase.{ReceiverPhase}
use Rattle.cfdp_receiver.specs.declared.state.ReceiverPhase.TheVariants as receiving
use Rattle.cfdp_receiver.specs.State.{ReceiverState}
use Rattle.cfdp_entity.specs.Seen.{Seen, Sends, Receives}
use Rattle.cfdp_entity.specs.Table.{record_of}
use Rattle.station_pair.specs.declared.side.Side.{Side}
use Rattle.station_pair.specs.Stations.{other}
use Rattle.link_sim.specs.Between.{IsReceiverIn, IsUnspoiled}
use Rattle.link_sim.specs.Clean.{IsCompleteAt}
use Rattle.link_sim.specs.Course.{IsCourse}
use Rattle.link_sim.specs.Exchange.{has_ended, has_finished, if_ended, is_closed, is_closed_in, maybe, once_ended}
use Rattle.link_sim.specs.Found.{HasExchange, IsPutOf}
use Rattle.link_sim.specs.Observed.{seen}
use Rattle.link_sim.specs.Runs.{Exchange}
use Rattle.link_sim.specs.Stages.{is_answered_in}
use Rattle.link_sim.specs.Theorem.{accepted_as}
use Rattle.link_sim.specs.Waiting.{policy_at, is_open, is_open_receiver, is_open_sender, IsCompleted, IsOpen, IsUncancelled, IsWaiting, IsWaitingIn, IsWaitingRecord}
use Rattle.link_sim.specs.World.State.{WorldState, entity_at}
use Rattle.link_sim.proofs.Clean.Ends.{complete-at, side-is}
use Rattle.link_sim.proofs.Course.All.{course-laws}
use Rattle.link_sim.proofs.Events.Keeping.{both}
use Rattle.link_sim.proofs.Found.Exchanges.{exchange-true}
use Rattle.link_sim.proofs.Found.Puts.{accepted-among, found-by}
use Rattle.link_sim.proofs.Recovery.Records.{IsReceivedHere, IsSentHere, received-here, sent-here}
use Rattle.link_sim.proofs.Stages.Keep.{closed-is}
use Rattle.outages.specs.Tries.{GoesOn, HasTriesIn, MayTry}
use Rattle.outages.proofs.Budgets.{HoldsHere, HoldsThere, is_done}
use Rattle.outages.proofs.Tracking.{Holds, IsReached}

-- ---- at first
-- The put of a transaction that waits.
pub record IsTracked (id : TransactionId) (w : WorldState) : Type 0 where
  pub side : Side
  pub put : Put
  pub of : put.id ≡ id
  pub own : IsPutOf side put w

pub tracked : (id : TransactionId) (w : WorldState) → IsReached w → IsOpen id w → IsTracked id w
tracked id w r o = at (record_of id (entity_at o.side w).table.records) refl o.still_open
  where
    at : (q : Option Seen) → record_of id (entity_at o.side w).table.records ≡ q → is_open q ≡ true → IsTracked id w
    at None is h = absurd (false≢true h)
    at (Some (Sends x)) is h = (let t : IsSentHere o.side id x w = sent-here w r.sound o.side id x is in record { side = o.side; put = t.put; of = t.of; own = t.own })
    at (Some (Receives x m)) is h = (let t : IsReceivedHere o.side id x w = received-here w r.sound r.kept o.side id x m is in record { side = other o.side; put = t.put; of = t.of; own = t.own })

module _ (strict : Bool) (s : Side) (put : Put) (w : WorldState) (r : IsReached w) (own : IsPutOf s put w) (e : Exchange) (has : HasExchange s put w e) (waits : IsWaiting put.id w) (n : Side → Kind → ℕ)
    (may : MayTry put.id n w) where
  sender-waits : IsWaitingRecord (policy_at s w).limits (Sends e.sender)
  sender-waits = subst (IsWaitingIn (policy_at s w).limits) has.is.is_sender (waits.all s).record_waits

  unspoiled : IsUnspoiled false put.id (entity_at s w) (entity_at (other s) w)
  unspoiled = record {
    told = (waits.all s).told;
    told_there = (waits.all (other s)).told;
    uncancelled = subst IsUncancelled (sym has.is.is_sender) sender-waits.uncancelled;
    heard = λ f. absurd (false≢true f);
    heard_there = λ f. absurd (false≢true f);
    awake = λ f. absurd (false≢true f);
    awake_there = λ f. absurd (false≢true f);
  }

  awake-there : (o : Option ReceiverState) (q : Option Seen) → IsReceiverIn q o → IsWaitingIn (policy_at (other s) w).limits q → maybe (λ r. r.suspended) o ≡ false
  awake-there None q is h = refl
  awake-there (Some r) None is h = absurd is
  awake-there (Some r) (Some (Sends x)) is h = absurd is
  awake-there (Some r) (Some (Receives t m)) is h = ap (λ (u : ReceiverState). u.suspended) is ∙ h.awake

  tries-here : HoldsHere strict (policy_at s w).limits (suc (n s EofAck)) e.sender
  tries-here undone = by strict e.sender.phase refl undone
    where
      low : is_open_sender e.sender.phase ≡ true → e.sender.count + suc (n s EofAck) ≤ (policy_at s w).limits.eof
      low open_ = (let few : e.sender.count + n s EofAck < (policy_at s w).limits.eof = subst (HasTriesIn (policy_at s w).limits (n s)) has.is.is_sender (may s) open_ in omega (arith, few))

      by : (strict : Bool) (p : SenderPhase) → e.sender.phase ≡ p → is_done strict e.sender ≡ false → e.sender.count + suc (n s EofAck) ≤ (policy_at s w).limits.eof
      by strict sending.Sending is undone = low (ap is_open_sender is)
      by strict sending.Cancelling is undone = low (ap is_open_sender is)
      by true sending.Closed is undone = absurd (both_ways (is_done true e.sender) undone (ap (λ p. not (is_open_sender p)) is))
      by false sending.Closed is undone = absurd (both_ways (is_done false e.sender) undone (ap (λ p. is_answered_in p e.sender.acknowledged) is))

  open-receiver : (p : ReceiverPhase) → is_closed_in p ≡ false → is_open_receiver p ≡ true
  open-receiver receiving.Receiving h = refl
  open-receiver receiving.Finishing h = refl
  open-receiver receiving.Closed h = absurd (false≢true (sym h))

  tries-there : (o : Option ReceiverState) (q : Option Seen) → IsReceiverIn q o → HasTriesIn (policy_at (other s) w).limits (n (other s)) q →
      HoldsThere (policy_at (other s) w).limits (suc (n (other s) Nak)) (suc (n (other s) FinishedAck)) o
  tries-there None None is h = (let a : n (other s) Nak < (policy_at (other s) w).limits.nak = h.0 in let b : n (other s) FinishedAck < (policy_at (other s) w).limits.finished = h.1 in (omega (arith, a), omega (arith, b)))
  tries-there None (Some (Sends x)) is h = absurd is
  tries-there None (Some (Receives t m)) is h = absurd is
  tries-there (Some r) None is h = absurd is
  tries-there (Some r) (Some (Sends x)) is h = absurd is
  tries-there (Some r) (Some (Receives t m)) is h = λ open_. (
      let k = h (open-receiver t.phase (ap (λ (u : ReceiverState). is_closed u) (sym is) ∙ open_)) in
      let a : t.nak_count + n (other s) Nak < (policy_at (other s) w).limits.nak = k.0 in
      let b : t.finished_count + n (other s) FinishedAck < (policy_at (other s) w).limits.finished = k.1 in
      let naks : r.nak_count ≡ t.nak_count = ap (λ (u : ReceiverState). u.nak_count) is in
      let finisheds : r.finished_count ≡ t.finished_count = ap (λ (u : ReceiverState). u.finished_count) is in
      (omega (arith, a, naks), omega (arith, b, finisheds)))

  pub first-holds : Holds strict (policy_at s w).limits (policy_at (other s) w).limits put (suc (n s EofAck)) (suc (n (other s) Nak)) (suc (n (other s) FinishedAck)) e
  first-holds =
      let c : IsCourse put false false false false e.sender e.receiver e.forth e.back e.told e.told_there = exchange-true s put w r.sound r.kept.course own course-laws unspoiled e has in
      record {
        course = record {
          truth = c.truth;
          active = λ _. record {
            sender = sender-waits.awake;
            receiver = awake-there e.receiver (record_of put.id (entity_at (other s) w).table.records) has.is.is_receiver (waits.all (other s)).record_waits;
          };
          ack_comes = λ f. absurd (false≢true f);
          file_comes = λ f. absurd (false≢true f);
          end_comes = λ f. absurd (false≢true f);
        };
        sender = tries-here;
        receiver = tries-there e.receiver (record_of put.id (entity_at (other s) w).table.records) has.is.is_receiver (may (other s));
      }

-- ---- in the end
module _ (strict : Bool) (s : Side) (put : Put) (w : WorldState) (r : IsReached w) (own : IsPutOf s put w) (e : Exchange) (has : HasExchange s put w e) (eof nak finished : ℕ)
    (holds : Holds strict (policy_at s w).limits (policy_at (other s) w).limits put eof nak finished e) where
  -- closed at the receiver, it is complete
  pub completed-by : maybe is_closed e.receiver ≡ true → IsCompleted put.id w
  completed-by closed =
      let here : e.sender.phase ≡ sending.Closed = holds.course.truth.closed closed in
      let ended : maybe has_ended e.receiver ≡ true = closed-ended e.receiver closed in
      let q = found-by (seen w) (accepted_as w.puts put.id) put own.found in
      record {
        put = q.0;
        among = accepted-among w.puts put.id q.0 q.1.0;
        of = sym q.1.1;
        complete = subst (λ (u : Side). IsCompleteAt u q.0 w) (sym (side-is w r.sound s put.id.source own.own))
            (complete-at w r.sound s q.0 put q.1.1 own.own e.sender e.receiver has.is.is_sender has.is.is_receiver here closed
            (has.is.is_told ∙ holds.course.truth.sender_told here) (has.is.is_told_there ∙ holds.course.truth.receiver_told ended));
      }
    where
      closed-ended : (o : Option ReceiverState) → maybe is_closed o ≡ true → maybe has_ended o ≡ true
      closed-ended None h = absurd (false≢true h)
      closed-ended (Some r) h = ap (λ p. once_ended p false) (closed-is r.phase h)

module _ (s : Side) (put : Put) (w : WorldState) (r : IsReached w) (own : IsPutOf s put w) (e : Exchange) (has : HasExchange s put w e)
    (holds : Holds true (policy_at s w).limits (policy_at (other s) w).limits put 1 1 1 e) where
  record-here : IsWaitingRecord (policy_at s w).limits (Sends e.sender)
  record-here = record {
    uncancelled = holds.course.truth.not_cancelled;
    awake = (holds.course.active refl).sender;
    below = λ open_. (let few : e.sender.count + 1 ≤ (policy_at s w).limits.eof = holds.sender (ap not open_) in omega (arith, few));
  }

  undone-there : (p : ReceiverPhase) → is_open_receiver p ≡ true → is_closed_in p ≡ false
  undone-there receiving.Receiving h = refl
  undone-there receiving.Finishing h = refl
  undone-there receiving.Closed h = absurd (false≢true h)

  record-there : (o : Option ReceiverState) (q : Option Seen) → IsReceiverIn q o → maybe (λ r. r.suspended) o ≡ false → HoldsThere (policy_at (other s) w).limits 1 1 o →
      IsWaitingIn (policy_at (other s) w).limits q
  record-there o None is awake h = tt
  record-there None (Some (Sends x)) is awake h = absurd is
  record-there None (Some (Receives t m)) is awake h = absurd is
  record-there (Some r) (Some (Sends x)) is awake h = absurd is
  record-there (Some r) (Some (Receives t m)) is awake h = record {
    uncancelled = tt;
    awake = ap (λ (u : ReceiverState). u.suspended) (sym is) ∙ awake;
    below = λ open_. (
        let k = h (ap (λ (u : ReceiverState). is_closed u) is ∙ undone-there t.phase open_) in
        let a : r.nak_count + 1 ≤ (policy_at (other s) w).limits.nak = k.0 in
        let b : r.finished_count + 1 ≤ (policy_at (other s) w).limits.finished = k.1 in
        let naks : r.nak_count ≡ t.nak_count = ap (λ (u : ReceiverState). u.nak_count) is in
        let finisheds : r.finished_count ≡ t.finished_count = ap (λ (u : ReceiverState). u.finished_count) is in
        (omega (arith, a, naks), omega (arith, b, finisheds)));
  }

  records-wait : (t : Side) → IsWaitingIn (policy_at t w).limits (record_of put.id (entity_at t w).table.records)
  records-wait = both (λ t. IsWaitingIn (policy_at t w).limits (record_of put.id (entity_at t w).table.records)) s
      (subst (IsWaitingIn (policy_at s w).limits) (sym has.is.is_sender) record-here)
      (record-there e.receiver (record_of put.id (entity_at (other s) w).table.records) has.is.is_receiver (holds.course.active refl).receiver holds.receiver)

  pub goes-on-or : GoesOn put.id w ⊎ IsCompleted put.id w
  goes-on-or = by e.sender.phase refl
    where
      on-side : (t : Side) → is_open (record_of put.id (entity_at t w).table.records) ≡ true → GoesOn put.id w ⊎ IsCompleted put.id w
      on-side t open_ = inl (record { still_open = record { side = t; still_open = open_ }; records_wait = records-wait })

      sends : is_open_sender e.sender.phase ≡ true → GoesOn put.id w ⊎ IsCompleted put.id w
      sends open_ = on-side s (ap is_open has.is.is_sender ∙ open_)

      -- the sender is closed, so the receiver sent its Finished
      over : (o : Option ReceiverState) (q : Option Seen) → e.receiver ≡ o → record_of put.id (entity_at (other s) w).table.records ≡ q → IsReceiverIn q o → maybe has_finished o ≡ true
          → GoesOn put.id w ⊎ IsCompleted put.id w
      over None q is at here finished = absurd (false≢true finished)
      over (Some r) None is at here finished = absurd here
      over (Some r) (Some (Sends x)) is at here finished = absurd here
      over (Some t) (Some (Receives u m)) is at here finished = receives t.phase refl
        where
          receives : (p : ReceiverPhase) → t.phase ≡ p → GoesOn put.id w ⊎ IsCompleted put.id w
          receives receiving.Receiving phase = absurd (false≢true (sym (ap (λ p. if_ended p t.finished_taken) phase) ∙ finished))
          receives receiving.Finishing phase = on-side (other s) (ap is_open at ∙ ap (λ (u : ReceiverState). is_open_receiver u.phase) (sym here) ∙ ap is_open_receiver phase)
          receives receiving.Closed phase = inr (completed-by true s put w r own e has 1 1 1 holds (ap (maybe is_closed) is ∙ ap is_closed_in phase))

      by : (p : SenderPhase) → e.sender.phase ≡ p → GoesOn put.id w ⊎ IsCompleted put.id w
      by sending.Sending is = sends (ap is_open_sender is)
      by sending.Cancelling is = sends (ap is_open_sender is)
      by sending.Closed is = over e.receiver (record_of put.id (entity_at (other s) w).table.records) refl refl has.is.is_receiver (holds.course.truth.over is)
