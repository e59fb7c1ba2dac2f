-- What one step of a sender or a receiver does to the course of a put: the lemmas that the lift to
-- two tables takes, as one record.
use Rattle.std.proofs.Common.{◌≡◌, ◌≢◌, ℕ, ◌||◌, Bool, true, false, List, [], ◌∷◌, ◌++◌, length, Option, Some, None}
use Rattle.cfdp_header.specs.Files.{FileMap}
use Rattle.cfdp_directives.specs.declared.pdu.addressing.Addressing.{Addressing}
use Rattle.cfdp_directives.specs.declared.user.indication.Indication.{Indication}
use Rattle.cfdp_directives.specs.declared.user.policy.Policy.{Policy}
use Rattle.cfdp_directives.specs.Pdu.Content.{Content}
use Rattle.cfdp_directives.specs.User.Put.{Put}
use Rattle.cfdp_store.specs.declared.stored.Stored.{Stored}
use Rattle.cfdp_store.specs.declared.stored.Stored.TheVariants.{Done}
use Rattle.cfdp_store.specs.Staged.{OctetMap}
use Rattle.cfdp_timers.specs.declared.kind.Kind.{Kind}
use Rattle.cfdp_sender.specs.declared.due.SenderDue.{SenderDue}
use Rattle.cfdp_sender.specs.declared.phase.SenderPhase.TheVariants as sending
use Rattle.cfdp_sender.specs.declared.transfer.Transfer.{Transfer}
use Rattle.cfdp_sender.specs.Due.{sender_due, sender_says}
use Rattle.cfdp_sender.specs.InFile.{IsInFile}
use Rattle.cfdp_sender.specs.Inputs.{IsSenderOf, put_of}
use Rattle.cfdp_sender.specs.State.{SenderState, opened_sender}
use Rattle.cfdp_sender.specs.Steps.{SenderAfter, sender_sends, sender_expires}
use Rattle.cfdp_receiver.specs.declared.due.Due.{Due}
use Rattle.cfdp_receiver.specs.Due.{receiver_due, receiver_says}
use Rattle.cfdp_receiver.specs.Sound.{opens_hearing}
use Rattle.cfdp_receiver.specs.State.{ReceiverState}
use Rattle.cfdp_receiver.specs.Steps.{ReceiverAfter, takes, expires}
use Rattle.cfdp_entity.specs.declared.request.Request.{Request}
use Rattle.cfdp_entity.specs.Steps.{sender_after, receiver_after, called_sender, called_receiver}
use Rattle.link_sim.specs.Course.{IsCourse}
use Rattle.link_sim.specs.Exchange.{is_closed, maybe, tells_complete, pauses}
use Rattle.link_sim.specs.Waiting.{spoils, one_tells}
use Rattle.link_sim.specs.Work.{opening_work}

-- These indications spoil nothing, and if it must stay awake none says that it was suspended.
pub record TellsWell (put : Put) (awake : Bool) (told : List Indication) : Type 0 where
  pub good : one_tells (spoils put.id) told ≡ false
  pub unpaused : awake ≡ true → one_tells (pauses put.id) told ≡ false

-- nothing is due at the receiver, if there is one
abbrev pub NothingDue : Option ReceiverState → Type 0
NothingDue (Some r) = receiver_due r ≡ None
NothingDue None = Unit {0}

-- whether this was indicated, with what was indicated before
abbrev pub told_with : Put → Bool → List Indication → Bool
told_with put before told = before || one_tells (tells_complete put.id) told

pub record CourseLaws : Type 0 where
  -- ---- the sender
  pub sender_sends : (put : Put) (awake acks files ends : Bool) (x : SenderState) (o : Option ReceiverState) (forth back : List Content) (b c : Bool) (d : SenderDue) → IsSenderOf put x → IsInFile x →
      sender_due x ≡ Some d →
      let a = sender_sends Done put.octets x d in IsCourse put awake acks files ends x o forth back b c → TellsWell put awake a.told →
      IsCourse put awake acks files ends a.sender o (forth ++ sender_says put.octets x d ∷ []) back (told_with put b a.told) c
  pub sender_hears : (put : Put) (awake acks files ends : Bool) (x : SenderState) (o : Option ReceiverState) (forth before after : List Content) (v : Content) (b c : Bool) (a : SenderAfter) →
      IsSenderOf put x → IsInFile x → sender_after v x ≡ Some a →
      IsCourse put awake acks files ends x o forth (before ++ v ∷ after) b c → TellsWell put awake a.told →
      IsCourse put awake acks files ends a.sender o forth (before ++ after) (told_with put b a.told) c
  pub sender_expires : (put : Put) (awake acks files ends : Bool) (x : SenderState) (o : Option ReceiverState) (forth back : List Content) (b c : Bool) (k : Kind) (policy : Policy) →
      IsSenderOf put x → IsInFile x →
      let a = sender_expires k policy x in IsCourse put awake acks files ends x o forth back b c → TellsWell put awake a.told → a.sender.phase ≢ sending.Cancelling →
      IsCourse put awake acks files ends a.sender o forth back (told_with put b a.told) c
  pub sender_called : (put : Put) (awake acks files ends : Bool) (x : SenderState) (o : Option ReceiverState) (forth back : List Content) (b c : Bool) (call : Request) → IsSenderOf put x → IsInFile x →
      let a = called_sender call x in IsCourse put awake acks files ends x o forth back b c → TellsWell put awake a.told → a.sender.phase ≢ sending.Cancelling →
      IsCourse put awake acks files ends a.sender o forth back (told_with put b a.told) c
  -- ---- the receiver
  pub receiver_takes : (put : Put) (awake acks files ends : Bool) (x : SenderState) (r : ReceiverState) (forth back : List Content) (b c : Bool) (d : Due) (m : OctetMap) (published : FileMap) →
      r.addressing.id ≡ put.id → receiver_due r ≡ Some d →
      let a = takes d m published r in IsCourse put awake acks files ends x (Some r) forth back b c → TellsWell put awake a.told →
      IsCourse put awake acks files ends x (Some a.receiver) forth (back ++ receiver_says r d ∷ []) b (told_with put c a.told)
  pub receiver_hears : (put : Put) (awake acks files ends : Bool) (x : SenderState) (r : ReceiverState) (before after back : List Content) (large : Bool) (v : Content) (b c : Bool)
      (stored : Stored) (m : OctetMap) (published : FileMap) (a : ReceiverAfter) → r.addressing.id ≡ put.id → x.size ≡ length put.octets → receiver_after stored large v m published r ≡ Some a →
      IsCourse put awake acks files ends x (Some r) (before ++ v ∷ after) back b c → TellsWell put awake a.told →
      IsCourse put awake acks files ends x (Some a.receiver) (before ++ after) back b (told_with put c a.told)
  pub receiver_opens : (put : Put) (awake acks files ends : Bool) (x : SenderState) (before after back : List Content) (large : Bool) (v : Content) (b c : Bool) (begun stored : Stored)
      (published : FileMap) (addressing : Addressing) → addressing.id ≡ put.id → x.size ≡ length put.octets → opening_work v ≢ 0 →
      let a = opens_hearing begun stored large v published addressing in IsCourse put awake acks files ends x None (before ++ v ∷ after) back b c → TellsWell put awake a.told →
      IsCourse put awake acks files ends x (Some a.receiver) (before ++ after) back b (told_with put c a.told)
  -- a PDU that opens no record is lost if there is none, and that does no harm
  pub none_hears : (put : Put) (awake acks files ends : Bool) (x : SenderState) (before after back : List Content) (v : Content) (b c : Bool) → opening_work v ≡ 0 →
      IsCourse put awake acks files ends x None (before ++ v ∷ after) back b c → IsCourse put awake acks files ends x None (before ++ after) back b c
  pub receiver_expires : (put : Put) (awake acks files ends : Bool) (x : SenderState) (r : ReceiverState) (forth back : List Content) (b c : Bool) (k : Kind) (policy : Policy) (m : OctetMap)
      (published : FileMap) → r.addressing.id ≡ put.id → x.size ≡ length put.octets →
      let a = expires k policy m published r in IsCourse put awake acks files ends x (Some r) forth back b c → TellsWell put awake a.told →
      IsCourse put awake acks files ends x (Some a.receiver) forth back b (told_with put c a.told)
  pub receiver_called : (put : Put) (awake acks files ends : Bool) (x : SenderState) (r : ReceiverState) (forth back : List Content) (b c : Bool) (call : Request) (m : OctetMap) (published : FileMap)
      (a : ReceiverAfter) → r.addressing.id ≡ put.id → called_receiver call m published r ≡ Some a →
      IsCourse put awake acks files ends x (Some r) forth back b c → TellsWell put awake a.told →
      IsCourse put awake acks files ends x (Some a.receiver) forth back b (told_with put c a.told)
  -- ---- the link
  pub lost_forth : (put : Put) (x : SenderState) (o : Option ReceiverState) (before after back : List Content) (v : Content) (b c : Bool) →
      IsCourse put false false false false x o (before ++ v ∷ after) back b c → IsCourse put false false false false x o (before ++ after) back b c
  pub lost_back : (put : Put) (x : SenderState) (o : Option ReceiverState) (forth before after : List Content) (v : Content) (b c : Bool) →
      IsCourse put false false false false x o forth (before ++ v ∷ after) b c → IsCourse put false false false false x o forth (before ++ after) b c
  -- ---- at first, and in the end
  pub opened : (t : Transfer) (file : List ℕ) (awake acks files ends b c : Bool) → IsCourse (put_of t file) awake acks files ends (opened_sender t) None [] [] b c
  pub told_more : (put : Put) (awake acks files ends : Bool) (x : SenderState) (o : Option ReceiverState) (forth back : List Content) (b b1 c c1 : Bool) → (b ≡ true → b1 ≡ true) →
      (c ≡ true → c1 ≡ true) →
      IsCourse put awake acks files ends x o forth back b c → IsCourse put awake acks files ends x o forth back b1 c1
  pub completes : (put : Put) (x : SenderState) (o : Option ReceiverState) (b c : Bool) → IsSenderOf put x → IsInFile x → IsCourse put true true true true x o [] [] b c → sender_due x ≡ None →
      NothingDue o →
      (x.phase ≡ sending.Closed) × ((maybe is_closed o ≡ true) × ((b ≡ true) × (c ≡ true)))
