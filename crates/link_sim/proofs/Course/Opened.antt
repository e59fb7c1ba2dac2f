-- A put is on its course once it is made, and stays so if more is indicated.
use Rattle.std.proofs.Common.{◌≡◌, inl, inr, ℕ, Bool, true, List, [], Option, None, refl}
use Rattle.std.proofs.lemmas.Bool.{false≢true}
use Rattle.cfdp_directives.specs.Pdu.Content.{Content}
use Rattle.cfdp_directives.specs.User.Put.{Put}
use Rattle.cfdp_sender.specs.declared.transfer.Transfer.{Transfer}
use Rattle.cfdp_sender.specs.Inputs.{put_of}
use Rattle.cfdp_sender.specs.State.{SenderState, opened_sender}
use Rattle.cfdp_receiver.specs.State.{ReceiverState}
use Rattle.link_sim.specs.Course.{IsCourse}

pub opened : (t : Transfer) (file : List ℕ) (awake acks files ends b c : Bool) → IsCourse (put_of t file) awake acks files ends (opened_sender t) None [] [] b c
opened t file awake acks files ends b c = record {
  truth = record {
    not_cancelled = λ e. cc;
    all_sent = λ h. absurd (false≢true h);
    receiver = tt;
    true_forth = tt;
    true_back = tt;
    eof_forth = λ h. absurd (false≢true h);
    heard = λ h. absurd (false≢true h);
    eof_ack_due = λ h. absurd (false≢true h);
    eof_ack_back = λ h. absurd (false≢true h);
    acknowledged = λ h. absurd (false≢true h);
    finished_back = λ h. absurd (false≢true h);
    over = λ e. cc;
    ack_due = λ h. absurd (false≢true h);
    ack_forth = λ h. absurd (false≢true h);
    closed = λ h. absurd (false≢true h);
    sender_told = λ e. cc;
    receiver_told = λ h. absurd (false≢true h);
  };
  active = λ _. record { sender = refl; receiver = refl };
  ack_comes = λ _ _. inr (inl (inl refl));
  file_comes = λ _. record { metadata = inl (inl refl); octets = λ n _. inl (inl refl); ending = inl (inl refl) };
  end_comes = λ _ h. absurd (false≢true h);
}

pub told-more : (put : Put) (awake acks files ends : Bool) (x : SenderState) (o : Option ReceiverState) (forth back : List Content) (b b1 c c1 : Bool) → (b ≡ true → b1 ≡ true) →
    (c ≡ true → c1 ≡ true) →
    IsCourse put awake acks files ends x o forth back b c → IsCourse put awake acks files ends x o forth back b1 c1
told-more put awake acks files ends x o forth back b b1 c c1 more more_there k =
    let t = k.truth in
    record {
      truth = record {
        not_cancelled = t.not_cancelled;
        all_sent = t.all_sent;
        receiver = t.receiver;
        true_forth = t.true_forth;
        true_back = t.true_back;
        eof_forth = t.eof_forth;
        heard = t.heard;
        eof_ack_due = t.eof_ack_due;
        eof_ack_back = t.eof_ack_back;
        acknowledged = t.acknowledged;
        finished_back = t.finished_back;
        over = t.over;
        ack_due = t.ack_due;
        ack_forth = t.ack_forth;
        closed = t.closed;
        sender_told = λ h. more (t.sender_told h);
        receiver_told = λ h. more_there (t.receiver_told h);
      };
      active = k.active;
      ack_comes = k.ack_comes;
      file_comes = k.file_comes;
      end_comes = k.end_comes;
    }
