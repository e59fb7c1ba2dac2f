-- What is true between a sender and a receiver stays so, whatever the sender does.
use Rattle.std.proofs.Common.{◌≡◌, inl, inr, ◌≤◌, Bool, true, false, List, [], ◌∷◌, ◌++◌, Option, is_some, refl, sym, ap, ◌∙◌, arith}
use Rattle.std.proofs.lemmas.Bool.{or_left, or_right, and_from}
use Rattle.cfdp_header.specs.Ids.{same_id}
use Rattle.cfdp_entity.proofs.Entries.{same_id-itself}
use Rattle.cfdp_directives.specs.declared.pdu.codes.Delivery.TheVariants.{Complete}
use Rattle.cfdp_directives.specs.declared.pdu.codes.FileStatus.TheVariants.{Retained}
use Rattle.cfdp_directives.specs.declared.user.indication.Indication.{Indication}
use Rattle.cfdp_directives.specs.Pdu.Codes.{no_error}
use Rattle.cfdp_directives.specs.User.Completions.{is_complete}
use Rattle.cfdp_directives.specs.Pdu.Content.{Content, Finished}
use Rattle.cfdp_directives.specs.User.Put.{Put}
use Rattle.cfdp_directives.specs.Pdu.Tlv.{Tlv}
use Rattle.cfdp_sender.specs.declared.phase.SenderPhase.{SenderPhase}
use Rattle.cfdp_sender.specs.declared.phase.SenderPhase.TheVariants as sending
use Rattle.cfdp_sender.specs.Inputs.{delivered}
use Rattle.cfdp_sender.specs.State.{SenderState}
use Rattle.cfdp_sender.specs.Steps.{sender_hears_finished, end_told}
use Rattle.cfdp_receiver.specs.State.{ReceiverState}
use Rattle.link_sim.specs.Course.{IsTrueBetween}
use Rattle.link_sim.specs.Exchange.{is_eof, is_finished, is_ack_of_finished, is_ack_of_eof, IsTrueForth, IsTrueBack, knows_ending, has_finished, maybe, tells_complete}
use Rattle.link_sim.specs.Waiting.{one_tells}
use Rattle.link_sim.proofs.Course.Laws.{told_with}
use Rattle.link_sim.proofs.Course.Lists.{waits-stays, waits-here, waits-which, true-parts, true-sent}
use Rattle.link_sim.proofs.Course.SenderSteps.{Sends, Stays}

pub told-before : (put : Put) (before : Bool) (told : List Indication) → before ≡ true → told_with put before told ≡ true
told-before put before told h = or_left before _ h

pub told-new : (put : Put) (before : Bool) (told : List Indication) → one_tells (tells_complete put.id) told ≡ true → told_with put before told ≡ true
told-new put before told h = or_right before _ h

module _ (put : Put) where
  pub sends-true : (x x1 : SenderState) (o : Option ReceiverState) (forth back : List Content) (v : Content) (b c : Bool) (told : List Indication) → IsTrueBetween put x o forth back b c →
      Sends put v x x1
      → IsTrueBetween put x1 o (forth ++ v ∷ []) back (told_with put b told) c
  sends-true x x1 o forth back v b c told t s =
      let was : x1.phase ≡ sending.Closed → x.phase ≡ sending.Closed = λ h. sym s.phase ∙ h in
      let now : x.phase ≡ sending.Closed → x1.phase ≡ sending.Closed = λ h. s.phase ∙ h in
      record {
        not_cancelled = λ h. t.not_cancelled (sym s.phase ∙ h);
        all_sent = s.all_sent;
        receiver = t.receiver;
        true_forth = true-sent (IsTrueForth put) forth v t.true_forth s.is_true;
        true_back = t.true_back;
        eof_forth = λ h. elim (waits-which is_eof forth v h) [ inl w ↦ s.taken (t.eof_forth w) | inr here ↦ s.taken_now here ];
        heard = λ h. s.taken (t.heard h);
        eof_ack_due = t.eof_ack_due;
        eof_ack_back = t.eof_ack_back;
        acknowledged = λ h. t.acknowledged (sym s.acknowledged ∙ h);
        finished_back = t.finished_back;
        over = λ h. t.over (was h);
        ack_due = λ h. now (t.ack_due (s.ack_due h));
        ack_forth = λ h. elim (waits-which is_ack_of_finished forth v h) [ inl w ↦ now (t.ack_forth w) | inr here ↦ now (t.ack_due (s.acks here)) ];
        closed = λ h. now (t.closed h);
        sender_told = λ h. told-before put b told (t.sender_told (was h));
        receiver_told = t.receiver_told;
      }

  pub stays-true : (x x1 : SenderState) (o : Option ReceiverState) (forth back : List Content) (b c : Bool) (told : List Indication) → IsTrueBetween put x o forth back b c → Stays x x1 →
      (x1.acknowledged ≡ true → maybe knows_ending o ≡ true)
      → IsTrueBetween put x1 o forth back (told_with put b told) c
  stays-true x x1 o forth back b c told t s acknowledged =
      let was : x1.phase ≡ sending.Closed → x.phase ≡ sending.Closed = λ h. sym s.phase ∙ h in
      let now : x.phase ≡ sending.Closed → x1.phase ≡ sending.Closed = λ h. s.phase ∙ h in
      record {
        not_cancelled = λ h. t.not_cancelled (sym s.phase ∙ h);
        all_sent = λ h. let all : x.size ≤ x.sent = t.all_sent (sym s.eof ∙ h) in omega (arith, s.size, s.sent, all);
        receiver = t.receiver;
        true_forth = t.true_forth;
        true_back = t.true_back;
        eof_forth = λ h. s.eof ∙ t.eof_forth h;
        heard = λ h. s.eof ∙ t.heard h;
        eof_ack_due = t.eof_ack_due;
        eof_ack_back = t.eof_ack_back;
        acknowledged = acknowledged;
        finished_back = t.finished_back;
        over = λ h. t.over (was h);
        ack_due = λ h. now (t.ack_due (sym (ap is_some s.ack) ∙ h));
        ack_forth = λ h. now (t.ack_forth h);
        closed = λ h. now (t.closed h);
        sender_told = λ h. told-before put b told (t.sender_told (was h));
        receiver_told = t.receiver_told;
      }

  -- a PDU is no longer on its way to the sender
  pub dropped-true : (x : SenderState) (o : Option ReceiverState) (forth before after : List Content) (v : Content) (b c : Bool) → IsTrueBetween put x o forth (before ++ v ∷ after) b c →
      IsTrueBetween put x o forth (before ++ after) b c
  dropped-true x o forth before after v b c t = record {
    not_cancelled = t.not_cancelled;
    all_sent = t.all_sent;
    receiver = t.receiver;
    true_forth = t.true_forth;
    true_back = (true-parts IsTrueBack before after v t.true_back).1;
    eof_forth = t.eof_forth;
    heard = t.heard;
    eof_ack_due = t.eof_ack_due;
    eof_ack_back = λ h. t.eof_ack_back (waits-stays is_ack_of_eof before after v h);
    acknowledged = t.acknowledged;
    finished_back = λ h. t.finished_back (waits-stays is_finished before after v h);
    over = t.over;
    ack_due = t.ack_due;
    ack_forth = t.ack_forth;
    closed = t.closed;
    sender_told = t.sender_told;
    receiver_told = t.receiver_told;
  }

  -- a Finished comes
  pub finished-true : (x : SenderState) (o : Option ReceiverState) (forth before after : List Content) (tlvs : List Tlv) (b c : Bool) → x.addressing.id ≡ put.id
      → IsTrueBetween put x o forth (before ++ Finished no_error Complete Retained tlvs ∷ after) b c
      → IsTrueBetween put (sender_hears_finished delivered x).sender o forth (before ++ after) (told_with put b (sender_hears_finished delivered x).told) c
  finished-true x o forth before after tlvs b c id t =
      let v : Content = Finished no_error Complete Retained tlvs in
      let was : maybe has_finished o ≡ true = t.finished_back (waits-here is_finished before after v refl) in
      record {
        not_cancelled = λ e. cc;
        all_sent = t.all_sent;
        receiver = t.receiver;
        true_forth = t.true_forth;
        true_back = (true-parts IsTrueBack before after v t.true_back).1;
        eof_forth = t.eof_forth;
        heard = t.heard;
        eof_ack_due = t.eof_ack_due;
        eof_ack_back = λ h. t.eof_ack_back (waits-stays is_ack_of_eof before after v h);
        acknowledged = t.acknowledged;
        finished_back = λ _. was;
        over = λ _. was;
        ack_due = λ _. refl;
        ack_forth = λ _. refl;
        closed = λ _. refl;
        sender_told = λ _. tells x.phase refl;
        receiver_told = t.receiver_told;
      }
    where
      own : one_tells (tells_complete put.id) (end_told sending.Sending delivered x) ≡ true
      own = or_left _ false (and_from (same_id put.id x.addressing.id) (is_complete no_error Complete Retained) (same_id-itself put.id x.addressing.id (sym id)) refl)

      tells : (phase : SenderPhase) → x.phase ≡ phase → told_with put b (end_told phase delivered x) ≡ true
      tells sending.Sending is = told-new put b (end_told sending.Sending delivered x) own
      tells sending.Cancelling is = absurd (t.not_cancelled is)
      tells sending.Closed is = told-before put b [] (t.sender_told is)
