-- A PDU that a sender hears keeps its put on its course.
use Rattle.std.proofs.Common.{◌≡◌, inl, inr, ℕ, ◌<◌, ◌≤◌, min, nat_lt, Bool, true, false, List, [], ◌∷◌, ◌++◌, length, Option, Some, refl, sym, subst, ◌∙◌, arith, ◌==◌, ◌&&◌, if◌then◌else◌}
use Rattle.std.specs.FinSet as set
use Rattle.std.specs.Cmp.{nat_cmp_total}
use Rattle.std.proofs.lemmas.Bool.{false≢true, both_ways, cond_both, and_parts, and_from, or_left, cases_Bool}
use Rattle.cfdp_extents.specs.Offsets.{range}
use Rattle.cfdp_directives.specs.declared.pdu.codes.Acknowledged.TheVariants as acknowledged
use Rattle.cfdp_directives.specs.declared.pdu.codes.Delivery.{Delivery}
use Rattle.cfdp_directives.specs.declared.pdu.codes.Delivery.TheVariants.{Complete}
use Rattle.cfdp_directives.specs.declared.pdu.codes.FileStatus.{FileStatus}
use Rattle.cfdp_directives.specs.declared.pdu.codes.FileStatus.TheVariants.{Retained}
use Rattle.cfdp_directives.specs.declared.pdu.codes.TransactionStatus.{TransactionStatus}
use Rattle.cfdp_directives.specs.declared.user.telling.Outcome.{Outcome}
use Rattle.cfdp_directives.specs.Pdu.Codes.{no_error}
use Rattle.cfdp_directives.specs.Pdu.Content.{Content, FileData, Metadata, Eof, Finished, Ack, Nak, Prompt, KeepAlive}
use Rattle.cfdp_directives.specs.User.Put.{Put}
use Rattle.cfdp_directives.specs.Pdu.Tlv.{Tlv}
use Rattle.cfdp_sender.specs.declared.phase.SenderPhase.{SenderPhase}
use Rattle.cfdp_sender.specs.declared.phase.SenderPhase.TheVariants.{Sending, Cancelling, Closed}
use Rattle.cfdp_sender.specs.InFile.{IsInFile}
use Rattle.cfdp_sender.specs.Inputs.{IsSenderOf, delivered}
use Rattle.cfdp_sender.specs.State.{SenderState}
use Rattle.cfdp_sender.specs.Steps.{SenderAfter, hears_ack, sender_hears_ack, asks, asks_all, asks_in, sender_hears_nak, sender_hears_finished, sender_hears_keep_alive}
use Rattle.cfdp_receiver.specs.State.{ReceiverState}
use Rattle.cfdp_entity.specs.Steps.{sender_after}
use Rattle.link_sim.specs.Course.{EofAgain, MetadataComes, OctetComes, IsTrueBetween, IsCourse}
use Rattle.link_sim.specs.Exchange.{is_finished, is_ack_of_eof, names, names_metadata, one_says, IsTrueBack, knows_ending, has_finished, maybe}
use Rattle.link_sim.proofs.Course.Asks.{nak-comes-owed, nak-comes-metadata}
use Rattle.link_sim.proofs.Course.Laws.{TellsWell, told_with}
use Rattle.link_sim.proofs.Course.Lists.{waits-here, true-parts}
use Rattle.link_sim.proofs.Course.SenderSteps.{Stays}
use Rattle.link_sim.proofs.Course.SenderStays.{finished-metadata, finished-octet, finished-file, itself-stays, stays-course, drops-course, other-course}
use Rattle.link_sim.proofs.Course.SenderTruth.{finished-true}

-- ---- what a NAK changes
-- all but what is asked for stays as it was
record Asked (x y : SenderState) : Type 0 where
  pub stays : Stays x y
  pub acknowledged : y.acknowledged ≡ x.acknowledged
  pub again : y.eof_due ≡ x.eof_due
  pub suspended : y.suspended ≡ x.suspended

same-asked : (x : SenderState) → Asked x x
same-asked x = record { stays = itself-stays x; acknowledged = refl; again = refl; suspended = refl }

both-asked : (x y z : SenderState) → Asked x y → Asked y z → Asked x z
both-asked x y z a b = record {
  acknowledged = b.acknowledged ∙ a.acknowledged;
  again = b.again ∙ a.again;
  suspended = b.suspended ∙ a.suspended;
  stays = record {
    size = b.stays.size ∙ a.stays.size;
    sent = b.stays.sent ∙ a.stays.sent;
    phase = b.stays.phase ∙ a.stays.phase;
    eof = b.stays.eof ∙ a.stays.eof;
    ack = b.stays.ack ∙ a.stays.ack;
    metadata = λ h. b.stays.metadata (a.stays.metadata h);
    octets = λ n h. b.stays.octets n (a.stays.octets n h);
    acknowledged = λ h. b.stays.acknowledged (a.stays.acknowledged h);
  };
}

pair-asked : (p : ℕ × ℕ) (x : SenderState) → Asked x (asks p x)
pair-asked p x = cond_both ((p.0 == 0) && (p.1 == 0)) (record x { metadata_due = true })
    (if nat_lt p.0 (min p.1 x.sent) then record x { asked = set.union x.asked (range p.0 (min p.1 x.sent)) } else x) (Asked x)
    (λ _. record {
      acknowledged = refl;
      again = refl;
      suspended = refl;
      stays =
          record { size = refl; sent = refl; phase = refl; eof = refl; ack = refl; metadata = λ _. refl; octets = λ n h. h; acknowledged = λ h. h };
    })
    (λ _. cond_both (nat_lt p.0 (min p.1 x.sent)) (record x { asked = set.union x.asked (range p.0 (min p.1 x.sent)) }) x (Asked x)
    (λ _. record {
      acknowledged = refl;
      again = refl;
      suspended = refl;
      stays = record {
        size = refl;
        sent = refl;
        phase = refl;
        eof = refl;
        ack = refl;
        metadata = λ h. h;
        octets = λ n h. set.contains-union nat_cmp_total x.asked (range p.0 (min p.1 x.sent)) n ∙ or_left (set.contains x.asked n) _ h;
        acknowledged = λ h. h;
      };
    })
    (λ _. same-asked x))

pairs-asked : (ps : List (ℕ × ℕ)) (x : SenderState) → Asked x (asks_all ps x)
pairs-asked [] x = same-asked x
pairs-asked (p ∷ ps) x = both-asked x (asks p x) (asks_all ps (asks p x)) (pair-asked p x) (pairs-asked ps (asks p x))

nak-asked : (phase : SenderPhase) (ps : List (ℕ × ℕ)) (x : SenderState) → Asked x (asks_in phase ps x)
nak-asked Sending ps x = pairs-asked ps x
nak-asked Cancelling ps x = same-asked x
nak-asked Closed ps x = same-asked x

-- what an ACK of EOF changes
record Acknowledges (o : Option ReceiverState) (x : SenderState) (condition : ℕ) (back : List Content) (x1 : SenderState) : Type 0 where
  pub stays : Stays x x1
  pub acknowledged : x1.acknowledged ≡ true → maybe knows_ending o ≡ true
  pub again : EofAgain x o back → x1.eof_due ≡ true
  pub now : (condition == no_error) ≡ true → x1.phase ≡ Sending → x1.acknowledged ≡ true
  pub suspended : x1.suspended ≡ x.suspended

module _ (put : Put) (awake acks files ends : Bool) (o : Option ReceiverState) (forth : List Content) (c : Bool) (x : SenderState) (s : IsSenderOf put x) (before after : List Content) (b : Bool) where
  abbrev Was : Content → Type 0
  Was v = IsCourse put awake acks files ends x o forth (before ++ v ∷ after) b c

  abbrev Becomes : SenderAfter → Type 0
  Becomes a = IsCourse put awake acks files ends a.sender o forth (before ++ after) (told_with put b a.told) c

  -- ---- Finished
  delivered-course : (tlvs : List Tlv) → Was (Finished no_error Complete Retained tlvs) → Becomes (sender_hears_finished delivered x)
  delivered-course tlvs k =
      let was : maybe has_finished o ≡ true = k.truth.finished_back (waits-here is_finished before after (Finished no_error Complete Retained tlvs) refl) in
      record {
        truth = finished-true put x o forth before after tlvs b c s.id k.truth;
        active = λ g. record { sender = refl; receiver = (k.active g).receiver };
        ack_comes = λ _ e. cc;
        file_comes = λ _. finished-file put (sender_hears_finished delivered x).sender o forth (before ++ after) was;
        end_comes = λ _ _. inr (inr (inl refl));
      }

  finished-course : (condition : ℕ) (delivery : Delivery) (status : FileStatus) (tlvs : List Tlv) → condition ≡ no_error → delivery ≡ Complete → status ≡ Retained →
      Was (Finished condition delivery status tlvs)
      → Becomes (sender_hears_finished (record { condition = condition; delivery = delivery; status = status }) x)
  finished-course condition delivery status tlvs e f g k =
      let same : record { condition = condition; delivery = delivery; status = status } ≡ delivered = λ i. record { condition = e i; delivery = f i; status = g i } in
      subst (λ (w : Outcome). Becomes (sender_hears_finished w x)) (sym same)
      (delivered-course tlvs (subst (λ t. Was (Finished no_error Complete t tlvs)) g (subst (λ d. Was (Finished no_error d status tlvs)) f (subst (λ n. Was (Finished n delivery status tlvs)) e k))))

  -- ---- ACK of EOF
  ack-phase : (condition : ℕ) (status : TransactionStatus) (phase : SenderPhase) → x.phase ≡ phase → IsTrueBetween put x o forth (before ++ Ack acknowledged.Eof condition status ∷ after) b c
      → Acknowledges o x condition (before ++ Ack acknowledged.Eof condition status ∷ after) (hears_ack phase condition x).sender
  ack-phase condition status Sending is t =
      let v : Content = Ack acknowledged.Eof condition status in
      cond_both (x.eof_taken && (condition == no_error)) (record x { acknowledged = true; eof_due = false }) x (Acknowledges o x condition (before ++ v ∷ after))
      (λ both. let parts = and_parts x.eof_taken (condition == no_error) both in record {
        stays = record { size = refl; sent = refl; phase = refl; eof = refl; ack = refl; metadata = λ h. h; octets = λ n h. h; acknowledged = λ _. refl };
        acknowledged = λ _. t.eof_ack_back (waits-here is_ack_of_eof before after v parts.1);
        again = λ g. absurd (both_ways (one_says is_ack_of_eof (before ++ v ∷ after)) g.none_back (waits-here is_ack_of_eof before after v parts.1));
        now = λ _ _. refl;
        suspended = refl;
      })
      (λ neither. record {
        stays = itself-stays x;
        acknowledged = t.acknowledged;
        again = λ g. g.due;
        now = λ here _. absurd (both_ways (x.eof_taken && (condition == no_error)) neither
            (and_from x.eof_taken (condition == no_error) (t.heard (t.eof_ack_back (waits-here is_ack_of_eof before after v here))) here));
        suspended = refl;
      })
  ack-phase condition status Cancelling is t = absurd (t.not_cancelled is)
  ack-phase condition status Closed is t = record {
    stays = itself-stays x;
    acknowledged = t.acknowledged;
    again = λ g. g.due;
    now = λ _ e. let both : Closed ≡ Sending = sym is ∙ e in cc;
    suspended = refl;
  }

  ack-course : (condition : ℕ) (status : TransactionStatus) → Was (Ack acknowledged.Eof condition status) → Becomes (sender_hears_ack condition x)
  ack-course condition status k =
      let v : Content = Ack acknowledged.Eof condition status in
      let after_it : SenderAfter = sender_hears_ack condition x in
      let x1 : SenderState = after_it.sender in
      let a : Acknowledges o x condition (before ++ v ∷ after) x1 = ack-phase condition status x.phase refl k.truth in
      drops-course put awake acks files ends o forth c x1 before after v (told_with put b after_it.told) (λ h. absurd (false≢true h)) (λ n _ h. absurd (false≢true h)) a.now
      (λ h. absurd (false≢true h))
      (stays-course put awake acks files ends o forth c x x1 (before ++ v ∷ after) b after_it.told a.stays a.acknowledged a.again (λ _ h. a.suspended ∙ h) k)

  -- ---- NAK
  nak-metadata : (start end : ℕ) (ps : List (ℕ × ℕ)) (phase : SenderPhase) → x.phase ≡ phase → IsTrueBetween put x o forth (before ++ Nak start end ps ∷ after) b c
      → names_metadata (Nak start end ps) ≡ true → MetadataComes (asks_in phase ps x) o forth (before ++ after)
  nak-metadata start end ps Sending is t h = inr (inl (nak-comes-metadata ps x h))
  nak-metadata start end ps Cancelling is t h = absurd (t.not_cancelled is)
  nak-metadata start end ps Closed is t h = inr (inr (inr (inl (finished-metadata o (t.over is)))))

  nak-octet : (start end : ℕ) (ps : List (ℕ × ℕ)) (phase : SenderPhase) → x.phase ≡ phase → IsTrueBetween put x o forth (before ++ Nak start end ps ∷ after) b c
      → (n : ℕ) → n < length put.octets → names n (Nak start end ps) ≡ true → OctetComes n (asks_in phase ps x) o forth (before ++ after)
  nak-octet start end ps Sending is t n below h = elim (nak-comes-owed n x start end ps h) [
    | inl later ↦ inl (inl ((nak-asked Sending ps x).stays.eof ∙ not_taken later))
    | inr asked ↦ inr (inl asked)
  ]
    where
      not_taken : x.sent ≤ n → x.eof_taken ≡ false
      not_taken later = elim (cases_Bool x.eof_taken) [ inl taken ↦ absurd (let all : x.size ≤ x.sent = t.all_sent taken in omega (arith, all, s.size, later, below)) | inr not ↦ not ]
  nak-octet start end ps Cancelling is t n below h = absurd (t.not_cancelled is)
  nak-octet start end ps Closed is t n below h = inr (inr (inr (inl (finished-octet n o (t.over is)))))

  nak-course : (start end : ℕ) (ps : List (ℕ × ℕ)) → Was (Nak start end ps) → Becomes (sender_hears_nak ps x)
  nak-course start end ps k =
      let v : Content = Nak start end ps in
      let x1 : SenderState = asks_in x.phase ps x in
      let a : Asked x x1 = nak-asked x.phase ps x in
      drops-course put awake acks files ends o forth c x1 before after v (told_with put b []) (nak-metadata start end ps x.phase refl k.truth) (nak-octet start end ps x.phase refl k.truth)
      (λ h. absurd (false≢true h)) (λ h. absurd (false≢true h))
      (stays-course put awake acks files ends o forth c x x1 (before ++ v ∷ after) b [] a.stays (λ h. k.truth.acknowledged (sym a.acknowledged ∙ h)) (λ g. a.again ∙ g.due) (λ _ h. a.suspended ∙ h) k)

  -- ---- each PDU
  abbrev BecomesBy : Content → SenderAfter → Type 0
  BecomesBy v a = sender_after v x ≡ Some a → Was v → Becomes a

  heard-course : (v : Content) (a : SenderAfter) → BecomesBy v a
  heard-course (Finished condition delivery status tlvs) a e k =
      let t = (true-parts IsTrueBack before after (Finished condition delivery status tlvs) k.truth.true_back).0 in
      let is : sender_hears_finished (record { condition = condition; delivery = delivery; status = status }) x ≡ a = cc in
      subst Becomes is (finished-course condition delivery status tlvs t.0 t.1 t.2 k)
  heard-course (Ack acknowledged.Eof condition status) a e k = let is : sender_hears_ack condition x ≡ a = cc in subst Becomes is (ack-course condition status k)
  heard-course (Nak start end pairs) a e k = let is : sender_hears_nak pairs x ≡ a = cc in subst Becomes is (nak-course start end pairs k)
  heard-course (KeepAlive progress) a e k =
      let is : sender_hears_keep_alive progress x ≡ a = cc in
      subst Becomes is (other-course put awake acks files ends o forth c x before after (KeepAlive progress) b (sender_hears_keep_alive progress x).told refl (λ n. refl) refl refl k)
  heard-course (FileData offset bytes) a e k = cc
  heard-course (Metadata kind size source destination options) a e k = cc
  heard-course (Eof condition checksum size tlvs) a e k = cc
  heard-course (Ack acknowledged.Finished condition status) a e k = cc
  heard-course (Prompt keep_alive) a e k = cc

-- ---- the lemma
pub sender-hears : (put : Put) (awake acks files ends : Bool) (x : SenderState) (o : Option ReceiverState) (forth before after : List Content) (v : Content) (b c : Bool) (a : SenderAfter) →
    IsSenderOf put x → IsInFile x → sender_after v x ≡ Some a →
    IsCourse put awake acks files ends x o forth (before ++ v ∷ after) b c → TellsWell put awake a.told →
    IsCourse put awake acks files ends a.sender o forth (before ++ after) (told_with put b a.told) c
sender-hears put awake acks files ends x o forth before after v b c a s f e k well = heard-course put awake acks files ends o forth c x s before after b v a e k
