-- A PDU that a sender sends keeps its put on its course.
use Rattle.std.proofs.Common.{◌≡◌, inl, inr, ℕ, ◌+◌, ◌-◌, ◌<◌, ◌≤◌, Bool, true, false, not, List, [], ◌∷◌, ◌++◌, length, take, drop, Option, Some, is_some, refl, sym, ap, subst, ◌∙◌, arith}
use Rattle.std.specs.FinSet as set
use Rattle.std.specs.Cmp.{nat_cmp_total}
use Rattle.std.proofs.lemmas.Bool.{false≢true, and_from, cases_Bool}
use Rattle.cfdp_directives.specs.Pdu.Content.{Content}
use Rattle.cfdp_directives.specs.User.Put.{Put}
use Rattle.cfdp_store.specs.declared.stored.Stored.TheVariants.{Done}
use Rattle.cfdp_extents.specs.Offsets.{range, is_within}
use Rattle.cfdp_extents.proofs.CallerLemmas.{contains-range}
use Rattle.cfdp_sender.specs.declared.due.SenderDue.{SenderDue}
use Rattle.cfdp_sender.specs.declared.due.SenderDue.TheVariants as due
use Rattle.cfdp_sender.specs.declared.phase.SenderPhase.{SenderPhase}
use Rattle.cfdp_sender.specs.declared.phase.SenderPhase.TheVariants.{Sending, Cancelling, Closed}
use Rattle.cfdp_sender.specs.Due.{sender_due, sender_says, eof_says}
use Rattle.cfdp_sender.specs.InFile.{IsInFile}
use Rattle.cfdp_sender.specs.Inputs.{IsSenderOf}
use Rattle.cfdp_sender.specs.State.{SenderState}
use Rattle.cfdp_sender.specs.Steps.{SenderAfter, sender_sends}
use Rattle.cfdp_sender.proofs.Dues.{IsDue, IsEofDue, IsSegment, due-is, extent-len}
use Rattle.cfdp_sender.proofs.InFile.{asked-in, new-in}
use Rattle.cfdp_receiver.specs.State.{ReceiverState}
use Rattle.link_sim.specs.Course.{IsTrueBetween, IsCourse}
use Rattle.link_sim.proofs.Course.Debts.{sends-file, sends-ack, sends-end}
use Rattle.link_sim.proofs.Course.Laws.{TellsWell, told_with}
use Rattle.link_sim.proofs.Course.SenderSteps.{Sends}
use Rattle.link_sim.proofs.Course.SenderTruth.{sends-true}

-- ---- what each PDU does that may be due
module _ (put : Put) (x : SenderState) (o : Option ReceiverState) (forth back : List Content) (b c : Bool) (s : IsSenderOf put x) (t : IsTrueBetween put x o forth back b c) where
  abbrev SendsDue : SenderDue → Type 0
  SendsDue d = Sends put (sender_says put.octets x d) x (sender_sends Done put.octets x d).sender

  ack-sends : (condition : ℕ) → x.ack_due ≡ Some condition → SendsDue (due.AckOfFinished condition)
  ack-sends condition is = record {
    suspended = refl;
    phase = refl;
    acknowledged = refl;
    is_true = tt;
    all_sent = t.all_sent;
    taken = λ h. h;
    taken_now = λ h. absurd (false≢true h);
    eof = λ h. inl h;
    eof_due = λ h. inl h;
    metadata = λ h. inl h;
    octets = λ n h. inl h;
    ack = λ _. inr refl;
    ack_due = λ h. absurd (false≢true h);
    acks = λ _. ap is_some is;
  }

  prompt-sends : (keep_alive : Bool) → SendsDue (due.Prompt keep_alive)
  prompt-sends keep_alive = record {
    suspended = refl;
    phase = refl;
    acknowledged = refl;
    is_true = tt;
    all_sent = t.all_sent;
    taken = λ h. h;
    taken_now = λ h. absurd (false≢true h);
    eof = λ h. inl h;
    eof_due = λ h. inl h;
    metadata = λ h. inl h;
    octets = λ n h. inl h;
    ack = λ h. inl h;
    ack_due = λ h. h;
    acks = λ h. absurd (false≢true h);
  }

  metadata-sends : SendsDue due.Metadata
  metadata-sends = record {
    suspended = refl;
    phase = refl;
    acknowledged = refl;
    is_true = tt;
    all_sent = t.all_sent;
    taken = λ h. h;
    taken_now = λ h. absurd (false≢true h);
    eof = λ h. inl h;
    eof_due = λ h. inl h;
    metadata = λ _. inr refl;
    octets = λ n h. inl h;
    ack = λ h. inl h;
    ack_due = λ h. h;
    acks = λ h. absurd (false≢true h);
  }

  -- the octets of a segment end at its own end
  ends-at : (start end : ℕ) → IsSegment x start end → start + length (take (end - start) (drop start put.octets)) ≡ end
  ends-at start end part =
      let some : start < end = part.some in
      let within : end ≤ x.size = part.within in
      let len : length (take (end - start) (drop start put.octets)) ≡ end - start =
      extent-len put.octets (take (end - start) (drop start put.octets)) start (end - start) x.size refl (sym s.size) (omega (arith, some, within)) in
      omega (arith, len, some)

  in-file : (start end : ℕ) → IsSegment x start end → start + length (take (end - start) (drop start put.octets)) ≤ length put.octets
  in-file start end part =
      let e = ends-at start end part in
      let within : end ≤ x.size = part.within in
      omega (arith, e, within, s.size)

  asked-sends : (start end : ℕ) → IsSegment x start end → SendsDue (due.AskedData start end)
  asked-sends start end part = record {
    suspended = refl;
    phase = refl;
    acknowledged = refl;
    is_true = in-file start end part;
    all_sent = t.all_sent;
    taken = λ h. h;
    taken_now = λ h. absurd (false≢true h);
    eof = λ h. inl h;
    eof_due = λ h. inl h;
    metadata = λ h. inl h;
    octets = λ n h. elim (cases_Bool (set.contains (range start end) n)) [
      | inl sent ↦ inr (ap (λ e. is_within start e n) (ends-at start end part) ∙ sym (contains-range start end n) ∙ sent)
      | inr left ↦ inl (set.contains-difference nat_cmp_total x.asked (range start end) n ∙ and_from (set.contains x.asked n) _ h (ap not left))
    ];
    ack = λ h. inl h;
    ack_due = λ h. h;
    acks = λ h. absurd (false≢true h);
  }

  new-sends : (start end : ℕ) → x.sent < x.size → IsSegment x start end → SendsDue (due.NewData start end)
  new-sends start end some part = record {
    suspended = refl;
    phase = refl;
    acknowledged = refl;
    is_true = in-file start end part;
    all_sent = λ h. let all : x.size ≤ x.sent = t.all_sent h in absurd (omega (arith, all, some));
    taken = λ h. h;
    taken_now = λ h. absurd (false≢true h);
    eof = λ h. inl h;
    eof_due = λ h. inl h;
    metadata = λ h. inl h;
    octets = λ n h. inl h;
    ack = λ h. inl h;
    ack_due = λ h. h;
    acks = λ h. absurd (false≢true h);
  }

  eof-sends : (phase : SenderPhase) → x.phase ≡ phase → IsEofDue phase x → SendsDue due.Eof
  eof-sends Sending is all = subst (λ p. Sends put (eof_says p x) x (record x { eof_due = false; eof_taken = true })) (sym is) (record {
    suspended = refl;
    phase = refl;
    acknowledged = refl;
    is_true = (refl, s.size);
    all_sent = λ _. all;
    taken = λ _. refl;
    taken_now = λ _. refl;
    eof = λ _. inr refl;
    eof_due = λ _. inr refl;
    metadata = λ h. inl h;
    octets = λ n h. inl h;
    ack = λ h. inl h;
    ack_due = λ h. h;
    acks = λ h. absurd (false≢true h);
  })
  eof-sends Cancelling is all = absurd (t.not_cancelled is)
  eof-sends Closed is all = absurd all

  due-sends : (d : SenderDue) → IsInFile x → IsDue x d → SendsDue d
  due-sends (due.AckOfFinished condition) f is = ack-sends condition is
  due-sends (due.Prompt keep_alive) f is = prompt-sends keep_alive
  due-sends due.Metadata f is = metadata-sends
  due-sends (due.AskedData start end) f is = asked-sends start end (asked-in x start end f is)
  due-sends (due.NewData start end) f is = new-sends start end is.1 (subst (λ n. IsSegment x n end) (sym is.0) (new-in x end f is.1 is.2))
  due-sends due.Eof f is = eof-sends x.phase refl is

-- ---- the lemma
pub sender-sends : (put : Put) (awake acks files ends : Bool) (x : SenderState) (o : Option ReceiverState) (forth back : List Content) (b c : Bool) (d : SenderDue) → IsSenderOf put x → IsInFile x →
    sender_due x ≡ Some d →
    let a = sender_sends Done put.octets x d in IsCourse put awake acks files ends x o forth back b c → TellsWell put awake a.told →
    IsCourse put awake acks files ends a.sender o (forth ++ sender_says put.octets x d ∷ []) back (told_with put b a.told) c
sender-sends put awake acks files ends x o forth back b c d s f e k well =
    let v : Content = sender_says put.octets x d in
    let a : SenderAfter = sender_sends Done put.octets x d in
    let x1 : SenderState = a.sender in
    let sends : Sends put v x x1 = due-sends put x o forth back b c s k.truth d f (due-is x d e) in
    record {
      truth = sends-true put x x1 o forth back v b c a.told k.truth sends;
      active = λ g. record { sender = sends.suspended ∙ (k.active g).sender; receiver = (k.active g).receiver };
      ack_comes = λ g. sends-ack put x x1 o forth back v sends (k.ack_comes g);
      file_comes = λ g. sends-file put x x1 o forth back v sends (k.file_comes g);
      end_comes = λ g. sends-end put x x1 o forth back v sends (k.end_comes g);
    }
