-- What must be on disk before which PDU leaves. Then what is true between a sender and a receiver
-- also after losses, on which recovery rests, is true after a station resumed.
use Rattle.std.specs.Prelude.{◌≡◌, ◌⊎◌, ◌≤◌, Bool, true, List, is_some, Option}
use Rattle.cfdp_directives.specs.Pdu.Content.{Content}
use Rattle.cfdp_directives.specs.User.Put.{Put}
use Rattle.cfdp_sender.specs.declared.phase.SenderPhase.TheVariants as sending
use Rattle.cfdp_sender.specs.State.{SenderState}
use Rattle.cfdp_receiver.specs.State.{ReceiverState}
use Rattle.link_sim.specs.Course.{IsMaybeTrue}
use Rattle.link_sim.specs.Exchange.{is_ack_of_eof, is_ack_of_finished, is_eof, is_finished, is_closed, has_ended, has_finished, knows_ending, maybe, one_says, owes_ack}

-- A sender was x, and is restored as y. There is a receiver or none, and PDUs that left before the
-- kill may still arrive. That an EOF was taken must be on disk before the EOF leaves, and that the
-- sender is closed before its ACK of Finished leaves. The sender is cancelled, acknowledged or
-- closed only if x was. If it is closed, its user receives the indication, maybe for the second
-- time.
pub record SenderCommits (x y : SenderState) (o : Option ReceiverState) (forth : List Content)
    (told : Bool) : Type 0 where
  pub eof : (one_says is_eof forth ≡ true) ⊎ (maybe knows_ending o ≡ true) → y.eof_taken ≡ true
  pub all_sent : y.eof_taken ≡ true → y.size ≤ y.sent
  pub over : (one_says is_ack_of_finished forth ≡ true) ⊎ (maybe is_closed o ≡ true)
      → y.phase ≡ sending.Closed
  pub cancelled : y.phase ≡ sending.Cancelling → x.phase ≡ sending.Cancelling
  pub acknowledged : y.acknowledged ≡ true → x.acknowledged ≡ true
  pub closed : y.phase ≡ sending.Closed → x.phase ≡ sending.Closed
  pub ack_due : is_some y.ack_due ≡ true → y.phase ≡ sending.Closed
  pub is_told : y.phase ≡ sending.Closed → told ≡ true

-- A receiver was o, or there was none, and is restored as p, or none is. There is a sender, and
-- PDUs that left before the kill may still arrive. That an EOF was received must be on disk before
-- its ACK leaves, and that the file is published before a Finished leaves, which then counts as
-- sent. The receiver knows the EOF only if o knew it, and is closed only if o was. What is true of
-- every receiver is true of it, so a file that it has whole was published.
pub record ReceiverCommits (put : Put) (o p : Option ReceiverState) (x : SenderState)
    (back : List Content) (told_there : Bool) : Type 0 where
  pub eof : (one_says is_ack_of_eof back ≡ true) ⊎ (x.acknowledged ≡ true)
      → maybe knows_ending p ≡ true
  pub finished : (one_says is_finished back ≡ true) ⊎ (x.phase ≡ sending.Closed)
      → maybe has_finished p ≡ true
  pub still : IsMaybeTrue put p
  pub ending : maybe knows_ending p ≡ true → maybe knows_ending o ≡ true
  pub ack_due : maybe owes_ack p ≡ true → maybe knows_ending p ≡ true
  pub closed : maybe is_closed p ≡ true → maybe is_closed o ≡ true
  pub is_told : maybe has_ended p ≡ true → told_there ≡ true
