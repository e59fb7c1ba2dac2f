-- What losses keep is kept if a sender, or a receiver, comes back as it was committed.
use Rattle.std.proofs.Common.{◌≡◌, inl, inr, Bool, true, false, ◌||◌, List, [], ◌∷◌, Option, refl, sym, ap, subst, ◌∙◌}
use Rattle.cfdp_directives.specs.Pdu.Content.{Content}
use Rattle.cfdp_directives.specs.User.Put.{Put}
use Rattle.cfdp_sender.specs.State.{SenderState}
use Rattle.cfdp_receiver.specs.State.{ReceiverState}
use Rattle.link_sim.specs.Course.{IsTrueBetween}
use Rattle.link_sim.specs.Exchange.{AllTrue, is_ack_of_eof, is_ack_of_finished, is_eof, is_finished, one_says}
use Rattle.cfdp_resuming.specs.Entity.{AreSomeOf}
use Rattle.promises.specs.Commits.{ReceiverCommits, SenderCommits}

-- ---- of some of the PDUs
all-some : {X : Type 0} (Is : X → Type 0) (all some : List X) → AreSomeOf all some → AllTrue Is all → AllTrue Is some
all-some Is [] some is a = subst (AllTrue Is) (sym is) tt
all-some Is (x ∷ all) some (inl rest) a = all-some Is all some rest a.1
all-some Is (x ∷ all) some (inr (rest, is, more)) a = subst (AllTrue Is) (sym is) (a.0, all-some Is all rest more a.1)

or-right : (a b c : Bool) → (b ≡ true → c ≡ true) → (a || b) ≡ true → (a || c) ≡ true
or-right true b c f h = refl
or-right false b c f h = f h

or-behind : (a b : Bool) → b ≡ true → (a || b) ≡ true
or-behind true b h = refl
or-behind false b h = h

says-some : (says : Content → Bool) (all some : List Content) → AreSomeOf all some → one_says says some ≡ true → one_says says all ≡ true
says-some says [] some is h = ap (one_says says) (sym is) ∙ h
says-some says (x ∷ all) some (inl rest) h = or-behind (says x) (one_says says all) (says-some says all some rest h)
says-some says (x ∷ all) some (inr (rest, is, more)) h =
    or-right (says x) (one_says says rest) (one_says says all) (says-some says all rest more) (ap (one_says says) (sym is) ∙ h)

pub sender-kept : (put : Put) (x y : SenderState) (o : Option ReceiverState) (forth back forth_then back_then : List Content) (told told_then told_there : Bool) →
    IsTrueBetween put x o forth back told told_there → AreSomeOf forth forth_then → AreSomeOf back back_then → SenderCommits x y o forth_then told_then → IsTrueBetween put y o forth_then back_then told_then told_there
sender-kept put x y o forth back forth_then back_then told told_then told_there k fewer_forth fewer_back c = record {
  not_cancelled = λ is. k.not_cancelled (c.cancelled is);
  all_sent = c.all_sent;
  receiver = k.receiver;
  true_forth = all-some _ forth forth_then fewer_forth k.true_forth;
  true_back = all-some _ back back_then fewer_back k.true_back;
  eof_forth = λ h. c.eof (inl h);
  heard = λ h. c.eof (inr h);
  eof_ack_due = k.eof_ack_due;
  eof_ack_back = λ h. k.eof_ack_back (says-some is_ack_of_eof back back_then fewer_back h);
  acknowledged = λ h. k.acknowledged (c.acknowledged h);
  finished_back = λ h. k.finished_back (says-some is_finished back back_then fewer_back h);
  over = λ h. k.over (c.closed h);
  ack_due = c.ack_due;
  ack_forth = λ h. c.over (inl h);
  closed = λ h. c.over (inr h);
  sender_told = c.is_told;
  receiver_told = k.receiver_told;
}

pub receiver-kept : (put : Put) (x : SenderState) (o p : Option ReceiverState) (forth back forth_then back_then : List Content) (told told_there told_then : Bool) →
    IsTrueBetween put x o forth back told told_there → AreSomeOf forth forth_then → AreSomeOf back back_then → ReceiverCommits put o p x back_then told_then → IsTrueBetween put x p forth_then back_then told told_then
receiver-kept put x o p forth back forth_then back_then told told_there told_then k fewer_forth fewer_back c = record {
  not_cancelled = k.not_cancelled;
  all_sent = k.all_sent;
  receiver = c.still;
  true_forth = all-some _ forth forth_then fewer_forth k.true_forth;
  true_back = all-some _ back back_then fewer_back k.true_back;
  eof_forth = λ h. k.eof_forth (says-some is_eof forth forth_then fewer_forth h);
  heard = λ h. k.heard (c.ending h);
  eof_ack_due = c.ack_due;
  eof_ack_back = λ h. c.eof (inl h);
  acknowledged = λ h. c.eof (inr h);
  finished_back = λ h. c.finished (inl h);
  over = λ h. c.finished (inr h);
  ack_due = k.ack_due;
  ack_forth = λ h. k.ack_forth (says-some is_ack_of_finished forth forth_then fewer_forth h);
  closed = λ h. k.closed (c.closed h);
  sender_told = k.sender_told;
  receiver_told = c.is_told;
}
