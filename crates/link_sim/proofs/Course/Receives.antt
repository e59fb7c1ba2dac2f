-- The receiver's steps keep a put on its course.
use Rattle.std.proofs.Common.{◌≡◌, ◌≢◌, ℕ, Bool, false, List, [], ◌∷◌, ◌++◌, length, Option, Some, None, refl, sym, subst}
use Rattle.std.specs.FinMap as map
use Rattle.cfdp_header.specs.Files.{FileMap}
use Rattle.cfdp_directives.specs.declared.pdu.addressing.Addressing.{Addressing}
use Rattle.cfdp_directives.specs.declared.pdu.codes.Acknowledged.TheVariants as acknowledged
use Rattle.cfdp_directives.specs.declared.user.policy.Policy.{Policy}
use Rattle.cfdp_directives.specs.Pdu.Codes.{filestore_rejection}
use Rattle.cfdp_directives.specs.Pdu.Content.{Content, FileData, Metadata, Eof, Finished, Ack, Nak, Prompt, KeepAlive}
use Rattle.cfdp_directives.specs.User.Policy.{finished_told}
use Rattle.cfdp_directives.specs.User.Put.{Put}
use Rattle.cfdp_store.specs.declared.stored.Stored.{Stored}
use Rattle.cfdp_store.specs.declared.stored.Stored.TheVariants.{Done, Refused}
use Rattle.cfdp_store.specs.Staged.{OctetMap}
use Rattle.cfdp_timers.specs.declared.kind.Kind.{Kind}
use Rattle.cfdp_sender.specs.State.{SenderState}
use Rattle.cfdp_receiver.specs.declared.due.Due.{Due}
use Rattle.cfdp_receiver.specs.Due.{receiver_due, receiver_says}
use Rattle.cfdp_receiver.specs.Sound.{receiver_hears, opens_hearing}
use Rattle.cfdp_receiver.specs.State.{ReceiverState, opened_receiver}
use Rattle.cfdp_receiver.specs.Steps.{ReceiverAfter, failed, takes, expires}
use Rattle.cfdp_entity.specs.declared.request.Request.{Request}
use Rattle.cfdp_entity.specs.Steps.{receiver_after, called_receiver}
use Rattle.link_sim.specs.Course.{IsCourse}
use Rattle.link_sim.specs.Exchange.{is_metadata, is_eof, is_ack_of_finished, brings, IsTrueForth}
use Rattle.link_sim.specs.Work.{opening_work}
use Rattle.link_sim.proofs.Course.Laws.{TellsWell, told_with}
use Rattle.link_sim.proofs.Course.Lists.{waits-here, true-parts}
use Rattle.link_sim.proofs.Course.Asks.{still-asks}
use Rattle.link_sim.proofs.Course.Debts.{hears-file, hears-ack, hears-end, opened-file, opened-ack, opened-end, none-file, none-ack, none-end}
use Rattle.link_sim.proofs.Course.Steps.{Advances}
use Rattle.link_sim.proofs.Course.Truth.{comes-some, as-opened, lost-forth}
use Rattle.link_sim.proofs.Course.Gains.{fault-spoils}
use Rattle.link_sim.proofs.Course.Heard.{hears-advances}
use Rattle.link_sim.proofs.Course.Does.{takes-course, expires-course, called-course}

-- a PDU that a receiver hears
pub after-is : (stored : Stored) (large : Bool) (v : Content) (m : OctetMap) (files : FileMap) (r : ReceiverState) (a : ReceiverAfter) → receiver_after stored large v m files r ≡ Some a → a
    ≡ receiver_hears stored large v m files r
after-is stored large (Metadata checksum_kind size source destination options) m files r a is = cc
after-is stored large (FileData offset bytes) m files r a is = cc
after-is stored large (Eof condition checksum size tlvs) m files r a is = cc
after-is stored large (Ack acknowledged.Finished condition status) m files r a is = cc
after-is stored large (Ack acknowledged.Eof condition status) m files r a is = cc
after-is stored large (Prompt keep_alive) m files r a is = cc
after-is stored large (Finished condition delivery status tlvs) m files r a is = cc
after-is stored large (Nak start end pairs) m files r a is = cc
after-is stored large (KeepAlive progress) m files r a is = cc

module _ (put : Put) (awake acks files ends : Bool) (x : SenderState) where
  abbrev Course : Option ReceiverState → (forth back : List Content) → (b c : Bool) → Type 0
  Course o forth back b c = IsCourse put awake acks files ends x o forth back b c

  -- ---- it hears a PDU
  hears-course : (r : ReceiverState) (before after back : List Content) (large : Bool) (v : Content) (b c : Bool) (stored : Stored) (m : OctetMap) (published : FileMap) →
      r.addressing.id ≡ put.id → Course (Some r) (before ++ v ∷ after) back b c
      → let a = receiver_hears stored large v m published r in TellsWell put awake a.told → Course (Some a.receiver) (before ++ after) back b (told_with put c a.told)
  hears-course r before after back large v b c stored m published own k w =
      let a1 : ReceiverAfter = receiver_hears stored large v m published r in
      let t : IsTrueForth put v = (true-parts (IsTrueForth put) before after v k.truth.true_forth).0 in
      let a : Advances put v r a1.receiver a1.told = hears-advances put stored large m published r k.truth.receiver own v t w.good in
      record {
        truth = comes-some put x r a1.receiver before after back v b c a1.told k.truth a;
        active = λ f. record { sender = (k.active f).sender; receiver = a.active (k.active f).receiver };
        ack_comes = λ f. hears-ack put x r a1.receiver before after back v a1.told a (k.ack_comes f);
        file_comes = λ f. hears-file put x r a1.receiver before after back v a1.told a (still-asks put stored large m published r k.truth.receiver.ending v t) (k.file_comes f);
        end_comes = λ f. hears-end put x r a1.receiver before after back v a1.told a (λ here. k.truth.over (k.truth.ack_forth (waits-here is_ack_of_finished before after v here))) (k.end_comes f);
      }

  -- ---- there is no receiver yet
  opened-course : (addressing : Addressing) (forth back : List Content) (b c : Bool) → Course None forth back b c → Course (Some (opened_receiver addressing)) forth back b c
  opened-course addressing forth back b c k = record {
    truth = as-opened put addressing x forth back b c k.truth;
    active = λ f. record { sender = (k.active f).sender; receiver = refl };
    ack_comes = λ f. opened-ack put addressing x forth back (k.ack_comes f);
    file_comes = λ f. opened-file put addressing x forth back (k.file_comes f);
    end_comes = λ _. opened-end put addressing x forth back;
  }

  none-course : (before after back : List Content) (v : Content) (b c : Bool) → is_metadata v ≡ false → is_eof v ≡ false → ((n : ℕ) → brings n v ≡ false) → Course None (before ++ v ∷ after) back b c →
      Course None (before ++ after) back b c
  none-course before after back v b c metadata eof data_none k = record {
    truth = lost-forth put x None before after back v b c k.truth;
    active = λ f. record { sender = (k.active f).sender; receiver = refl };
    ack_comes = λ f. none-ack put x None before after back v eof (k.ack_comes f);
    file_comes = λ f. none-file put x None before after back v metadata eof data_none (k.file_comes f);
    end_comes = λ _. none-end put x (before ++ after) back;
  }

-- ---- the laws
pub receiver-takes : (put : Put) (awake acks files ends : Bool) (x : SenderState) (r : ReceiverState) (forth back : List Content) (b c : Bool) (d : Due) (m : OctetMap) (published : FileMap) →
    r.addressing.id ≡ put.id → receiver_due r ≡ Some d →
    let a = takes d m published r in IsCourse put awake acks files ends x (Some r) forth back b c → TellsWell put awake a.told →
    IsCourse put awake acks files ends x (Some a.receiver) forth (back ++ receiver_says r d ∷ []) b (told_with put c a.told)
receiver-takes put awake acks files ends x r forth back b c d m published own is k w = takes-course put awake acks files ends x r forth back b c own k m published d is

pub receiver-hears : (put : Put) (awake acks files ends : Bool) (x : SenderState) (r : ReceiverState) (before after back : List Content) (large : Bool) (v : Content) (b c : Bool)
    (stored : Stored) (m : OctetMap) (published : FileMap) (a : ReceiverAfter) → r.addressing.id ≡ put.id → x.size ≡ length put.octets → receiver_after stored large v m published r ≡ Some a →
    IsCourse put awake acks files ends x (Some r) (before ++ v ∷ after) back b c → TellsWell put awake a.told →
    IsCourse put awake acks files ends x (Some a.receiver) (before ++ after) back b (told_with put c a.told)
receiver-hears put awake acks files ends x r before after back large v b c stored m published a own size is k =
    subst (λ (a : ReceiverAfter). TellsWell put awake a.told → IsCourse put awake acks files ends x (Some a.receiver) (before ++ after) back b (told_with put c a.told))
    (sym (after-is stored large v m published r a is))
    (hears-course put awake acks files ends x r before after back large v b c stored m published own k)

pub receiver-opens : (put : Put) (awake acks files ends : Bool) (x : SenderState) (before after back : List Content) (large : Bool) (v : Content) (b c : Bool) (begun stored : Stored)
    (published : FileMap) (addressing : Addressing) → addressing.id ≡ put.id → x.size ≡ length put.octets → opening_work v ≢ 0 →
    let a = opens_hearing begun stored large v published addressing in IsCourse put awake acks files ends x None (before ++ v ∷ after) back b c → TellsWell put awake a.told →
    IsCourse put awake acks files ends x (Some a.receiver) (before ++ after) back b (told_with put c a.told)
receiver-opens put awake acks files ends x before after back large v b c Done stored published addressing own size opening k w =
    hears-course put awake acks files ends x (opened_receiver addressing) before after back large v b c stored map.empty published own
    (opened-course put awake acks files ends x addressing (before ++ v ∷ after) back b c k) w
receiver-opens put awake acks files ends x before after back large v b c Refused stored published addressing own size opening k w =
    absurd (fault-spoils put.id addressing.id filestore_rejection (finished_told addressing.id (failed filestore_rejection) ∷ []) own refl w.good)

pub none-hears : (put : Put) (awake acks files ends : Bool) (x : SenderState) (before after back : List Content) (v : Content) (b c : Bool) → opening_work v ≡ 0 →
    IsCourse put awake acks files ends x None (before ++ v ∷ after) back b c → IsCourse put awake acks files ends x None (before ++ after) back b c
none-hears put awake acks files ends x before after back v b c none = by v none
  where
    useless : (v : Content) → is_metadata v ≡ false → is_eof v ≡ false → ((n : ℕ) → brings n v ≡ false) → IsCourse put awake acks files ends x None (before ++ v ∷ after) back b c →
        IsCourse put awake acks files ends x None (before ++ after) back b c
    useless v = none-course put awake acks files ends x before after back v b c

    by : (v : Content) → opening_work v ≡ 0 → IsCourse put awake acks files ends x None (before ++ v ∷ after) back b c → IsCourse put awake acks files ends x None (before ++ after) back b c
    by (Metadata checksum_kind size source destination options) none = absurd (cc)
    by (FileData offset bytes) none = absurd (cc)
    by (Eof condition checksum size tlvs) none = absurd (cc)
    by (Ack of condition status) none = useless (Ack of condition status) refl refl (λ n. refl)
    by (Prompt keep_alive) none = useless (Prompt keep_alive) refl refl (λ n. refl)
    by (Finished condition delivery status tlvs) none = useless (Finished condition delivery status tlvs) refl refl (λ n. refl)
    by (Nak start end pairs) none = useless (Nak start end pairs) refl refl (λ n. refl)
    by (KeepAlive progress) none = useless (KeepAlive progress) refl refl (λ n. refl)

pub receiver-expires : (put : Put) (awake acks files ends : Bool) (x : SenderState) (r : ReceiverState) (forth back : List Content) (b c : Bool) (k : Kind) (policy : Policy) (m : OctetMap)
    (published : FileMap) → r.addressing.id ≡ put.id → x.size ≡ length put.octets →
    let a = expires k policy m published r in IsCourse put awake acks files ends x (Some r) forth back b c → TellsWell put awake a.told →
    IsCourse put awake acks files ends x (Some a.receiver) forth back b (told_with put c a.told)
receiver-expires put awake acks files ends x r forth back b c t policy m published own size k = expires-course put awake acks files ends x r forth back b c own k m published t policy

pub receiver-called : (put : Put) (awake acks files ends : Bool) (x : SenderState) (r : ReceiverState) (forth back : List Content) (b c : Bool) (call : Request) (m : OctetMap) (published : FileMap)
    (a : ReceiverAfter) → r.addressing.id ≡ put.id → called_receiver call m published r ≡ Some a →
    IsCourse put awake acks files ends x (Some r) forth back b c → TellsWell put awake a.told →
    IsCourse put awake acks files ends x (Some a.receiver) forth back b (told_with put c a.told)
receiver-called put awake acks files ends x r forth back b c call m published a own is k = called-course put awake acks files ends x r forth back b c own k m published call a is
