-- Proof-only: what is true between the sender and the receiver of a put while nothing spoils it,
-- and what must still come: each wanted thing is known, on its way, due, or will be asked for.
use Rattle.std.specs.Prelude.{◌≡◌, ◌⊎◌, ℕ, ◌<◌, ◌≤◌, Bool, true, false, List, length, is_some, Option, Some, None, IfSome}
use Rattle.std.specs.FinSet as set
use Rattle.cfdp_directives.specs.Pdu.Content.{Content}
use Rattle.cfdp_directives.specs.User.Put.{Put}
use Rattle.cfdp_sender.specs.declared.phase.SenderPhase.TheVariants as sending
use Rattle.cfdp_sender.specs.State.{SenderState}
use Rattle.cfdp_receiver.specs.declared.state.ReceiverPhase.TheVariants.{Receiving}
use Rattle.cfdp_receiver.specs.Missing.{scope_limit}
use Rattle.cfdp_receiver.specs.Sound.{is_lacking, owes_finished, goes_well, is_tidy}
use Rattle.cfdp_receiver.specs.State.{ReceiverState}
use Rattle.link_sim.specs.Exchange.{is_metadata, is_eof, is_finished, is_ack_of_finished, is_ack_of_eof, brings, names, names_metadata, one_says, IsTrueForth, IsTrueBack, AllTrue, knows_metadata, knows_ending, holds, has_ended, has_finished, finishes, is_closed, finished_is_due, owes_ack, maybe}

-- ---- truth: losses keep it too
-- A receiver knows the file's size if it knows the EOF. Something is missing while it receives, a
-- NAK that is due asks for something, and once it ended it is complete, and must send a Finished or
-- sent it.
pub record IsReceiverTrue (put : Put) (r : ReceiverState) : Type 0 where
  pub ending : r.phase ≡ Receiving → IfSome r.ending (λ e. e.size ≡ length put.octets)
  pub lacking : is_lacking r ≡ true
  pub tidy : is_tidy r ≡ true
  pub well : goes_well r ≡ true
  pub owes : owes_finished r ≡ true

abbrev pub IsMaybeTrue : Put → Option ReceiverState → Type 0
IsMaybeTrue put (Some r) = IsReceiverTrue put r
IsMaybeTrue put None = Unit {0}

-- Of a sender, a receiver or none, the PDUs on their way forth and back, and whether the sender,
-- and the receiver, indicated to its user that the file was delivered.
pub record IsTrueBetween (put : Put) (x : SenderState) (o : Option ReceiverState)
    (forth back : List Content) (told told_there : Bool) : Type 0 where
  pub not_cancelled : x.phase ≡ sending.Cancelling → ⊥
  pub all_sent : x.eof_taken ≡ true → x.size ≤ x.sent
  pub receiver : IsMaybeTrue put o
  pub true_forth : AllTrue (IsTrueForth put) forth
  pub true_back : AllTrue IsTrueBack back
  -- nobody is ahead of the other: an EOF is known only once it was sent, its ACK is sent only if it
  -- is known
  pub eof_forth : one_says is_eof forth ≡ true → x.eof_taken ≡ true
  pub heard : maybe knows_ending o ≡ true → x.eof_taken ≡ true
  pub eof_ack_due : maybe owes_ack o ≡ true → maybe knows_ending o ≡ true
  pub eof_ack_back : one_says is_ack_of_eof back ≡ true → maybe knows_ending o ≡ true
  pub acknowledged : x.acknowledged ≡ true → maybe knows_ending o ≡ true
  -- the same of a Finished: the sender is closed by it, acknowledges it then, and that closes the
  -- receiver
  pub finished_back : one_says is_finished back ≡ true → maybe has_finished o ≡ true
  pub over : x.phase ≡ sending.Closed → maybe has_finished o ≡ true
  pub ack_due : is_some x.ack_due ≡ true → x.phase ≡ sending.Closed
  pub ack_forth : one_says is_ack_of_finished forth ≡ true → x.phase ≡ sending.Closed
  pub closed : maybe is_closed o ≡ true → x.phase ≡ sending.Closed
  -- what was indicated
  pub sender_told : x.phase ≡ sending.Closed → told ≡ true
  pub receiver_told : maybe has_ended o ≡ true → told_there ≡ true

-- Neither is suspended.
pub record IsActive (x : SenderState) (o : Option ReceiverState) : Type 0 where
  pub sender : x.suspended ≡ false
  pub receiver : maybe (λ r. r.suspended) o ≡ false

-- ---- debts: each is kept by itself as long as nothing more is lost
-- An EOF is due again, and no ACK of an earlier one can call it off.
pub record EofAgain (x : SenderState) (o : Option ReceiverState) (back : List Content)
    : Type 0 where
  pub due : x.eof_due ≡ true
  pub none_due : maybe owes_ack o ≡ false
  pub none_back : one_says is_ack_of_eof back ≡ false

-- An EOF will still come to the receiver, which then asks for all that it misses.
abbrev pub EofComes : SenderState → Option ReceiverState → (forth back : List Content) → Type 0
EofComes x o forth back =
    (x.eof_taken ≡ false) ⊎ ((one_says is_eof forth ≡ true) ⊎ EofAgain x o back)

abbrev pub Maybe : (ReceiverState → Type 0) → Option ReceiverState → Type 0
Maybe Test (Some r) = Test r
Maybe Test None = ⊥

-- A wanted thing comes: an EOF comes, or it is due at the sender, brought by a PDU, known by the
-- receiver, named by a NAK on its way, or by one that is due.
abbrev pub Comes : (SenderState → Bool) → (Content → Bool) → (ReceiverState → Bool) →
    (Content → Bool)
    → (ReceiverState → Type 0)
    → SenderState → Option ReceiverState → (forth back : List Content) → Type 0
Comes due brings known named Asks x o forth back =
    EofComes x o forth back ⊎ ((due x ≡ true) ⊎ ((one_says brings forth ≡ true)
    ⊎ ((maybe known o ≡ true) ⊎ ((one_says named back ≡ true) ⊎ Maybe Asks o))))

-- A NAK is due from the front of the file on.
pub record AsksFirst (r : ReceiverState) : Type 0 where
  pub phase : r.phase ≡ Receiving
  pub cursor : r.nak_cursor ≡ Some 0

-- A NAK is due from an offset on that isn't after n.
pub record AsksFrom (n : ℕ) (r : ReceiverState) : Type 0 where
  pub phase : r.phase ≡ Receiving
  pub cursor : ℕ
  pub is_cursor : r.nak_cursor ≡ Some cursor
  pub low : cursor ≤ n
  pub below : n < scope_limit r

abbrev pub owes_metadata : SenderState → Bool
owes_metadata x = x.metadata_due

abbrev pub owes_octet : ℕ → SenderState → Bool
owes_octet n x = set.contains x.asked n

abbrev pub MetadataComes : SenderState → Option ReceiverState → (forth back : List Content) → Type 0
MetadataComes x o forth back =
    Comes owes_metadata is_metadata knows_metadata names_metadata AsksFirst x o forth back

abbrev pub OctetComes : ℕ → SenderState → Option ReceiverState → (forth back : List Content)
    → Type 0
OctetComes n x o forth back =
    Comes (owes_octet n) (brings n) (holds n) (names n) (AsksFrom n) x o forth back

-- The whole file comes: its Metadata, each of its octets, and its EOF.
pub record FileComes (put : Put) (x : SenderState) (o : Option ReceiverState)
    (forth back : List Content) : Type 0 where
  pub metadata : MetadataComes x o forth back
  pub octets : (n : ℕ) → n < length put.octets → OctetComes n x o forth back
  pub ending : EofComes x o forth back ⊎ (maybe knows_ending o ≡ true)

-- The ACK of EOF comes.
abbrev pub AckComes : SenderState → Option ReceiverState → (forth back : List Content) → Type 0
AckComes x o forth back = x.phase ≡ sending.Sending →
    (x.acknowledged ≡ true) ⊎ (EofComes x o forth back
    ⊎ ((maybe owes_ack o ≡ true) ⊎ (one_says is_ack_of_eof back ≡ true)))

-- A Finished comes, or its ACK does.
abbrev pub EndComes : SenderState → Option ReceiverState → (forth back : List Content) → Type 0
EndComes x o forth back = maybe finishes o ≡ true →
    (maybe finished_is_due o ≡ true) ⊎ ((one_says is_finished back ≡ true)
    ⊎ ((is_some x.ack_due ≡ true) ⊎ (one_says is_ack_of_finished forth ≡ true)))

-- What is true, and of these debts those whose flag is set: without any of them it is what losses
-- keep, with all of them it is what a link without losses keeps.
pub record IsCourse (put : Put) (awake acks files ends : Bool) (x : SenderState)
    (o : Option ReceiverState) (forth back : List Content) (told told_there : Bool) : Type 0 where
  pub truth : IsTrueBetween put x o forth back told told_there
  pub active : awake ≡ true → IsActive x o
  pub ack_comes : acks ≡ true → AckComes x o forth back
  pub file_comes : files ≡ true → FileComes put x o forth back
  pub end_comes : ends ≡ true → EndComes x o forth back
