-- What is true between a sender and a receiver of a put stays so if the receiver hears, sends or is
-- opened, and if a PDU is lost.
use Rattle.std.proofs.Common.{◌≡◌, ◌⊎◌, inl, inr, ℕ, ◌&&◌, ◌||◌, not, Bool, true, List, [], ◌∷◌, ◌++◌, Option, Some, None, is_some, refl}
use Rattle.std.proofs.lemmas.Bool.{and_parts, and_from, or_cases, or_left, or_right}
use Rattle.cfdp_directives.specs.declared.pdu.addressing.Addressing.{Addressing}
use Rattle.cfdp_directives.specs.declared.user.indication.Indication.{Indication}
use Rattle.cfdp_directives.specs.Pdu.Content.{Content}
use Rattle.cfdp_directives.specs.User.Put.{Put}
use Rattle.cfdp_sender.specs.State.{SenderState}
use Rattle.cfdp_receiver.specs.declared.state.ReceiverPhase.{ReceiverPhase}
use Rattle.cfdp_receiver.specs.declared.state.ReceiverPhase.TheVariants.{Receiving, Finishing, Closed}
use Rattle.cfdp_receiver.specs.Sound.{is_tidy}
use Rattle.cfdp_receiver.specs.State.{ReceiverState, opened_receiver, is_finishing}
use Rattle.link_sim.specs.Course.{IsReceiverTrue, IsTrueBetween}
use Rattle.link_sim.specs.Exchange.{AllTrue, is_eof, is_finished, is_ack_of_finished, is_ack_of_eof, one_says, IsTrueForth, IsTrueBack, if_ended, tells_complete}
use Rattle.link_sim.specs.Waiting.{one_tells}
use Rattle.link_sim.proofs.Course.Laws.{told_with}
use Rattle.link_sim.proofs.Course.Lists.{waits-stays, waits-here, waits-one-of, true-parts}
use Rattle.link_sim.proofs.Course.Steps.{Advances, changed, Does}

true-more : (Is : Content → Type 0) (pdus more : List Content) → AllTrue Is pdus → AllTrue Is more → AllTrue Is (pdus ++ more)
true-more Is [] more h m = m
true-more Is (p ∷ pdus) more h m = (h.0, true-more Is pdus more h.1 m)

module _ (put : Put) where
  -- ---- the receiver hears
  pub comes-some : (x : SenderState) (r r1 : ReceiverState) (before after back : List Content) (v : Content) (b c : Bool) (told : List Indication) →
      IsTrueBetween put x (Some r) (before ++ v ∷ after) back b c
      → Advances put v r r1 told → IsTrueBetween put x (Some r1) (before ++ after) back b (told_with put c told)
  comes-some x r r1 before after back v b c told t a = record {
    not_cancelled = t.not_cancelled;
    all_sent = t.all_sent;
    receiver = a.clean;
    true_forth = (true-parts (IsTrueForth put) before after v t.true_forth).1;
    true_back = t.true_back;
    eof_forth = λ h. t.eof_forth (waits-stays is_eof before after v h);
    heard = λ h. elim (a.heard h) [ inl was ↦ t.heard was | inr here ↦ t.eof_forth (waits-here is_eof before after v here) ];
    eof_ack_due = λ h. a.ending (elim (a.ack_new h) [ inl was ↦ inl (t.eof_ack_due was) | inr here ↦ inr here ]);
    eof_ack_back = λ h. a.ending (inl (t.eof_ack_back h));
    acknowledged = λ h. a.ending (inl (t.acknowledged h));
    finished_back = λ h. a.finished (t.finished_back h);
    over = λ h. a.finished (t.over h);
    ack_due = t.ack_due;
    ack_forth = λ h. t.ack_forth (waits-stays is_ack_of_finished before after v h);
    closed = λ h. elim (a.closes h) [ inl was ↦ t.closed was | inr here ↦ t.ack_forth (waits-here is_ack_of_finished before after v here) ];
    sender_told = t.sender_told;
    receiver_told = λ h. elim (a.tells h) [ inl was ↦ or_left c (one_tells (tells_complete put.id) told) (t.receiver_told was) | inr now ↦ or_right c (one_tells (tells_complete put.id) told) now ];
  }

  pub opened-true : (addressing : Addressing) → IsReceiverTrue put (opened_receiver addressing)
  opened-true addressing = record { ending = λ _. tt; lacking = refl; tidy = refl; well = refl; owes = refl }

  -- if there is no receiver, it is as if one had just been opened
  pub as-opened : (addressing : Addressing) (x : SenderState) (forth back : List Content) (b c : Bool) → IsTrueBetween put x None forth back b c →
      IsTrueBetween put x (Some (opened_receiver addressing)) forth back b c
  as-opened addressing x forth back b c t = record {
    not_cancelled = t.not_cancelled;
    all_sent = t.all_sent;
    receiver = opened-true addressing;
    true_forth = t.true_forth;
    true_back = t.true_back;
    eof_forth = t.eof_forth;
    heard = t.heard;
    eof_ack_due = t.eof_ack_due;
    eof_ack_back = t.eof_ack_back;
    acknowledged = t.acknowledged;
    finished_back = t.finished_back;
    over = t.over;
    ack_due = t.ack_due;
    ack_forth = t.ack_forth;
    closed = t.closed;
    sender_told = t.sender_told;
    receiver_told = t.receiver_told;
  }

  -- ---- a PDU is lost, or does nothing
  pub lost-forth : (x : SenderState) (o : Option ReceiverState) (before after back : List Content) (v : Content) (b c : Bool) → IsTrueBetween put x o (before ++ v ∷ after) back b c →
      IsTrueBetween put x o (before ++ after) back b c
  lost-forth x o before after back v b c t = record {
    not_cancelled = t.not_cancelled;
    all_sent = t.all_sent;
    receiver = t.receiver;
    true_forth = (true-parts (IsTrueForth put) before after v t.true_forth).1;
    true_back = t.true_back;
    eof_forth = λ h. t.eof_forth (waits-stays is_eof before after v h);
    heard = t.heard;
    eof_ack_due = t.eof_ack_due;
    eof_ack_back = t.eof_ack_back;
    acknowledged = t.acknowledged;
    finished_back = t.finished_back;
    over = t.over;
    ack_due = t.ack_due;
    ack_forth = λ h. t.ack_forth (waits-stays is_ack_of_finished before after v h);
    closed = t.closed;
    sender_told = t.sender_told;
    receiver_told = t.receiver_told;
  }

  pub lost-back : (x : SenderState) (o : Option ReceiverState) (forth before after : List Content) (v : Content) (b c : Bool) → IsTrueBetween put x o forth (before ++ v ∷ after) b c →
      IsTrueBetween put x o forth (before ++ after) b c
  lost-back x o forth before after v b c t = record {
    not_cancelled = t.not_cancelled;
    all_sent = t.all_sent;
    receiver = t.receiver;
    true_forth = t.true_forth;
    true_back = (true-parts IsTrueBack before after v t.true_back).1;
    eof_forth = t.eof_forth;
    heard = t.heard;
    eof_ack_due = t.eof_ack_due;
    eof_ack_back = λ h. t.eof_ack_back (waits-stays is_ack_of_eof before after v h);
    acknowledged = t.acknowledged;
    finished_back = λ h. t.finished_back (waits-stays is_finished before after v h);
    over = t.over;
    ack_due = t.ack_due;
    ack_forth = t.ack_forth;
    closed = t.closed;
    sender_told = t.sender_told;
    receiver_told = t.receiver_told;
  }

  -- ---- the receiver sends, a timer of it expires, or it is suspended or resumed
  -- a Finished stays due or sent
  owes-still : (phase : ReceiverPhase) (was_due was_taken due taken told says : Bool) → (not (is_finishing phase) || ((was_due || was_taken) && told)) ≡ true
      → (was_due ≡ true → (due ≡ true) ⊎ (says ≡ true)) → (if_ended phase was_taken ≡ true → if_ended phase taken ≡ true) → (says ≡ true → if_ended phase taken ≡ true)
      → (not (is_finishing phase) || ((due || taken) && told)) ≡ true
  owes-still Receiving was_due was_taken due taken told says h owes still new = refl
  owes-still Closed was_due was_taken due taken told says h owes still new = refl
  owes-still Finishing was_due was_taken due taken told says h owes still new =
      let both = and_parts (was_due || was_taken) told h in
      and_from (due || taken) told (elim (or_cases was_due was_taken both.0) [
        | inl d ↦ elim (owes d) [ inl now ↦ or_left due taken now | inr here ↦ or_right due taken (new here) ]
        | inr t ↦ or_right due taken (still t)
      ]) both.1

  pub does-true : (x : SenderState) (r : ReceiverState) (forth back : List Content) (b c c1 : Bool) (suspended : Bool) (ack cursor : Option ℕ) (keep_alive due taken : Bool) (naks finisheds : ℕ)
      (more : List Content)
      → IsTrueBetween put x (Some r) forth back b c → Does r ack due taken more → is_tidy (changed r suspended ack cursor keep_alive due taken naks finisheds) ≡ true → (c ≡ true → c1 ≡ true)
      → IsTrueBetween put x (Some (changed r suspended ack cursor keep_alive due taken naks finisheds)) forth (back ++ more) b c1
  does-true x r forth back b c c1 suspended ack cursor keep_alive due taken naks finisheds more t d tidy told = record {
    not_cancelled = t.not_cancelled;
    all_sent = t.all_sent;
    receiver = record {
      ending = t.receiver.ending;
      lacking = t.receiver.lacking;
      tidy = tidy;
      well = t.receiver.well;
      owes = owes-still r.phase r.finished_due r.finished_taken due taken (is_some r.outcome) (one_says is_finished more) t.receiver.owes d.owes d.still d.new;
    };
    true_forth = t.true_forth;
    true_back = true-more IsTrueBack back more t.true_back d.truth;
    eof_forth = t.eof_forth;
    heard = t.heard;
    eof_ack_due = λ h. t.eof_ack_due (d.ack_due h);
    eof_ack_back = λ h. elim (waits-one-of is_ack_of_eof back more h) [ inl was ↦ t.eof_ack_back was | inr here ↦ t.eof_ack_due (d.acks here) ];
    acknowledged = t.acknowledged;
    finished_back = λ h. elim (waits-one-of is_finished back more h) [ inl was ↦ d.still (t.finished_back was) | inr here ↦ d.new here ];
    over = λ h. d.still (t.over h);
    ack_due = t.ack_due;
    ack_forth = t.ack_forth;
    closed = t.closed;
    sender_told = t.sender_told;
    receiver_told = λ h. told (t.receiver_told h);
  }
