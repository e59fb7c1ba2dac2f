-- A put stays on its course if its sender keeps what it must do, and if a PDU is taken from those
-- on their way to it.
use Rattle.std.proofs.Common.{◌≡◌, inl, inr, ℕ, ◌<◌, Bool, true, false, List, ◌∷◌, ◌++◌, length, Option, Some, None, is_some, refl}
use Rattle.std.specs.FinSet as set
use Rattle.std.proofs.lemmas.Bool.{false≢true, both_ways}
use Rattle.cfdp_directives.specs.declared.user.indication.Indication.{Indication}
use Rattle.cfdp_directives.specs.Pdu.Content.{Content}
use Rattle.cfdp_directives.specs.User.Put.{Put}
use Rattle.cfdp_sender.specs.declared.phase.SenderPhase.TheVariants.{Sending}
use Rattle.cfdp_sender.specs.State.{SenderState}
use Rattle.cfdp_receiver.specs.declared.state.ReceiverPhase.{ReceiverPhase}
use Rattle.cfdp_receiver.specs.declared.state.ReceiverPhase.TheVariants as receiving
use Rattle.cfdp_receiver.specs.State.{ReceiverState}
use Rattle.link_sim.specs.Course.{EofAgain, MetadataComes, OctetComes, FileComes, IsCourse}
use Rattle.link_sim.specs.Exchange.{is_finished, is_ack_of_eof, names, names_metadata, once_ended, if_ended, knows_metadata, knows_ending, holds, has_finished, maybe}
use Rattle.link_sim.proofs.Course.Debts.{stays-file, stays-ack, stays-end, drops-file, drops-ack, drops-end}
use Rattle.link_sim.proofs.Course.Laws.{told_with}
use Rattle.link_sim.proofs.Course.SenderSteps.{Stays}
use Rattle.link_sim.proofs.Course.SenderTruth.{stays-true, dropped-true}

-- ---- a receiver that has finished knows all
finished-knows : (phase : ReceiverPhase) (taken b : Bool) → if_ended phase taken ≡ true → once_ended phase b ≡ true
finished-knows receiving.Receiving taken b h = absurd (false≢true h)
finished-knows receiving.Finishing taken b h = refl
finished-knows receiving.Closed taken b h = refl

knows-all : (o : Option ReceiverState) (test : ReceiverState → Bool) → ((r : ReceiverState) → has_finished r ≡ true → test r ≡ true) → maybe has_finished o ≡ true → maybe test o ≡ true
knows-all (Some r) test all h = all r h
knows-all None test all h = h

pub finished-metadata : (o : Option ReceiverState) → maybe has_finished o ≡ true → maybe knows_metadata o ≡ true
finished-metadata o h = knows-all o knows_metadata (λ r f. finished-knows r.phase r.finished_taken (is_some r.metadata) f) h

pub finished-octet : (n : ℕ) (o : Option ReceiverState) → maybe has_finished o ≡ true → maybe (holds n) o ≡ true
finished-octet n o h = knows-all o (holds n) (λ r f. finished-knows r.phase r.finished_taken (set.contains r.held n) f) h

finished-ending : (o : Option ReceiverState) → maybe has_finished o ≡ true → maybe knows_ending o ≡ true
finished-ending o h = knows-all o knows_ending (λ r f. finished-knows r.phase r.finished_taken (is_some r.ending) f) h

pub finished-file : (put : Put) (x : SenderState) (o : Option ReceiverState) (forth back : List Content) → maybe has_finished o ≡ true → FileComes put x o forth back
finished-file put x o forth back h = record {
  metadata = inr (inr (inr (inl (finished-metadata o h))));
  octets = λ n _. inr (inr (inr (inl (finished-octet n o h))));
  ending = inr (finished-ending o h);
}

-- ---- the course
-- a step that changes nothing of what must still be sent
pub itself-stays : (x : SenderState) → Stays x x
itself-stays x = record { size = refl; sent = refl; phase = refl; eof = refl; ack = refl; metadata = λ h. h; octets = λ n h. h; acknowledged = λ h. h }

module _ (put : Put) (awake acks files ends : Bool) (o : Option ReceiverState) (forth : List Content) (c : Bool) where
  pub stays-course : (x x1 : SenderState) (back : List Content) (b : Bool) (told : List Indication) → Stays x x1 → (x1.acknowledged ≡ true → maybe knows_ending o ≡ true) →
      (EofAgain x o back → x1.eof_due ≡ true)
      → (awake ≡ true → x.suspended ≡ false → x1.suspended ≡ false)
      → IsCourse put awake acks files ends x o forth back b c → IsCourse put awake acks files ends x1 o forth back (told_with put b told) c
  stays-course x x1 back b told s acknowledged again active k = record {
    truth = stays-true put x x1 o forth back b c told k.truth s acknowledged;
    active = λ g. record { sender = active g (k.active g).sender; receiver = (k.active g).receiver };
    ack_comes = λ g. stays-ack put x x1 o forth back s again (k.ack_comes g);
    file_comes = λ g. stays-file put x x1 o forth back s again (k.file_comes g);
    end_comes = λ g. stays-end put x x1 o forth back s (k.end_comes g);
  }

  pub drops-course : (x : SenderState) (before after : List Content) (v : Content) (b : Bool)
      → (names_metadata v ≡ true → MetadataComes x o forth (before ++ after)) → ((n : ℕ) → n < length put.octets → names n v ≡ true → OctetComes n x o forth (before ++ after))
      → (is_ack_of_eof v ≡ true → x.phase ≡ Sending → x.acknowledged ≡ true) → (is_finished v ≡ true → is_some x.ack_due ≡ true)
      → IsCourse put awake acks files ends x o forth (before ++ v ∷ after) b c → IsCourse put awake acks files ends x o forth (before ++ after) b c
  drops-course x before after v b m d a f k = record {
    truth = dropped-true put x o forth before after v b c k.truth;
    active = k.active;
    ack_comes = λ g. drops-ack put x o forth before after v a (k.ack_comes g);
    file_comes = λ g. drops-file put x o forth before after v m d (k.file_comes g);
    end_comes = λ g. drops-end put x o forth before after v f (k.end_comes g);
  }

  -- a PDU that says nothing wanted, and changes nothing
  pub other-course : (x : SenderState) (before after : List Content) (v : Content) (b : Bool) (told : List Indication) → names_metadata v ≡ false → ((n : ℕ) → names n v ≡ false) → is_ack_of_eof v
      ≡ false → is_finished v ≡ false
      → IsCourse put awake acks files ends x o forth (before ++ v ∷ after) b c → IsCourse put awake acks files ends x o forth (before ++ after) (told_with put b told) c
  other-course x before after v b told m d a f k =
      stays-course x x (before ++ after) b told (itself-stays x) k.truth.acknowledged (λ g. g.due) (λ _ h. h)
      (drops-course x before after v b (λ h. absurd (both_ways _ m h)) (λ n _ h. absurd (both_ways _ (d n) h)) (λ h. absurd (both_ways _ a h)) (λ h. absurd (both_ways _ f h)) k)
