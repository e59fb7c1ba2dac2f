-- A run of one transaction keeps what is true of it, and each of its debts.
use Rattle.std.proofs.Common.{◌≡◌, ◌≢◌, inl, inr, ℕ, zero, suc, Bool, false, List, [], ◌∷◌, length, Option, Some, None, refl, sym, ap, subst, ◌∙◌}
use Rattle.std.specs.List.{list_any}
use Rattle.std.specs.FinMap as map
use Rattle.std.proofs.lemmas.Bool.{false≢true}
use Rattle.cfdp_header.specs.Files.{FileMap}
use Rattle.cfdp_directives.specs.declared.pdu.addressing.Addressing.{Addressing}
use Rattle.cfdp_directives.specs.declared.pdu.codes.Acknowledged.TheVariants as acknowledged
use Rattle.cfdp_directives.specs.declared.user.indication.Indication.{Indication}
use Rattle.cfdp_directives.specs.declared.user.limits.Times.{Times}
use Rattle.cfdp_directives.specs.Pdu.Content.{Content, FileData, Metadata, Eof, Finished, Ack, Nak, Prompt, KeepAlive}
use Rattle.cfdp_directives.specs.User.Put.{Put}
use Rattle.cfdp_store.specs.declared.stored.Stored.TheVariants.{Done}
use Rattle.cfdp_store.specs.Staged.{OctetMap}
use Rattle.cfdp_sender.specs.State.{SenderState}
use Rattle.cfdp_receiver.specs.Sound.{opens_hearing, is_file_fault}
use Rattle.cfdp_receiver.specs.State.{ReceiverState, opened_receiver}
use Rattle.cfdp_receiver.specs.Steps.{ReceiverAfter}
use Rattle.cfdp_entity.specs.Opening.{opens, opens_by, error_of}
use Rattle.cfdp_entity.specs.Seen.{Seen, Receives}
use Rattle.cfdp_entity.specs.Steps.{After, sender_after, receiver_after}
use Rattle.link_sim.specs.Clean.{is_bad}
use Rattle.link_sim.specs.Course.{IsCourse}
use Rattle.link_sim.specs.Exchange.{IsTrueForth, IsTrueBack}
use Rattle.link_sim.specs.Runs.{Exchange, SenderSends, SenderHears, SenderPasses, ReceiverTakes, ReceiverHears, ReceiverPasses, ReceiverOpens, GoesUnheard, Overtakes, TellsMore, Settles, Runs}
use Rattle.link_sim.specs.Work.{opening_work}
use Rattle.link_sim.proofs.Course.All.{course-laws}
use Rattle.link_sim.proofs.Course.Laws.{CourseLaws, told_with}
use Rattle.link_sim.proofs.Course.Receives.{after-is}
use Rattle.link_sim.proofs.Clean.NotBad.{tells-well}
use Rattle.link_sim.proofs.Stages.Keep.{ExchangeKeeps, runs-keep}
use Rattle.link_sim.proofs.Lanes.Swapping.{swapped-course}
use Rattle.link_sim.proofs.Clean.WellHeard.{sends-well, hears-back-well, hears-well}

-- ---- a record that a true PDU opens
record OpensAs (o : After) (a : ReceiverAfter) : Type 0 where
  pub octets : OctetMap
  pub seen : o.seen ≡ Receives a.receiver octets
  pub told : o.told ≡ a.told

opened-as : (put : Put) (large : Bool) (v : Content) → IsTrueForth put v → opening_work v ≢ 0 → (times : Times) (files : FileMap) (addressing : Addressing)
    → OpensAs (opens Done Done times files large v addressing) (opens_hearing Done Done large v files addressing)
opened-as put large (Metadata kind size source destination options) t opening times files addressing = record { octets = _; seen = refl; told = refl }
opened-as put large (FileData offset bytes) t opening times files addressing = record { octets = _; seen = refl; told = refl }
opened-as put large (Eof condition checksum size tlvs) t opening times files addressing =
    let v : Content = Eof condition checksum size tlvs in
    let no : error_of condition ≡ None = ap error_of t.0 in
    subst (λ o. OpensAs (opens_by o Done Done times files large v addressing) (opens_hearing Done Done large v files addressing)) (sym no) (record { octets = _; seen = refl; told = refl })
opened-as put large (Ack of condition status) t opening times files addressing = absurd (opening refl)
opened-as put large (Finished condition delivery status tlvs) t opening times files addressing = absurd (opening refl)
opened-as put large (Nak start end pairs) t opening times files addressing = absurd (opening refl)
opened-as put large (Prompt keep_alive) t opening times files addressing = absurd (opening refl)
opened-as put large (KeepAlive progress) t opening times files addressing = absurd (opening refl)

one-receiver : (s : Seen) (r p : ReceiverState) (m n : OctetMap) → s ≡ Receives r m → s ≡ Receives p n → r ≡ p
one-receiver s r p m n e f = (let both : Receives r m ≡ Receives p n = sym e ∙ f in cc)

-- nothing bad is indicated of a true PDU that a receiver hears
pub heard-good : (put : Put) (a b : Exchange) (s : ReceiverHears put a b) → IsTrueForth put s.heard → list_any is_bad s.after.told ≡ false
heard-good put a b s t =
    subst (λ (d : ReceiverAfter). list_any is_file_fault d.told ≡ false → list_any is_bad d.told ≡ false)
    (sym (after-is Done s.large s.heard s.octets s.files s.receiver s.after s.is_after)) (hears-well s.octets s.files s.receiver s.large put s.heard t) (s.good t)

-- nor of one that opens a record
abbrev pub opened-by : (put : Put) (a b : Exchange) → ReceiverOpens put a b → ReceiverAfter
opened-by put a b s = opens_hearing Done Done s.large s.heard s.files s.addressing

pub record OpensWell (put : Put) (a b : Exchange) (s : ReceiverOpens put a b) : Type 0 where
  pub receiver : s.receiver ≡ (opened-by put a b s).receiver
  pub told : (opens Done Done s.times s.files s.large s.heard s.addressing).told ≡ (opened-by put a b s).told
  pub good : list_any is_bad (opened-by put a b s).told ≡ false

pub opened-well : (put : Put) (a b : Exchange) (s : ReceiverOpens put a b) → IsTrueForth put s.heard → OpensWell put a b s
opened-well put a b s t =
    let o : ReceiverAfter = opened-by put a b s in
    let first : OpensAs (opens Done Done s.times s.files s.large s.heard s.addressing) o = opened-as put s.large s.heard t s.opening s.times s.files s.addressing in
    record {
      receiver = one-receiver _ s.receiver o.receiver s.octets first.octets s.is_receiver first.seen;
      told = first.told;
      good = hears-well map.empty s.files (opened_receiver s.addressing) s.large put s.heard t
          (subst (λ (l : List Indication). list_any is_file_fault l ≡ false) first.told (s.good t));
    }

-- what a true PDU comes back as isn't nothing to a sender
no-pass : (v : Content) (x : SenderState) → IsTrueBack v → sender_after v x ≡ None → ⊥
no-pass (Ack acknowledged.Eof condition status) x t e = absurd cc
no-pass (Nak start end pairs) x t e = absurd cc
no-pass (Finished condition delivery status tlvs) x t e = absurd cc
no-pass (KeepAlive progress) x t e = absurd cc
no-pass (Ack acknowledged.Finished condition status) x t e = t
no-pass (FileData offset bytes) x t e = t
no-pass (Metadata kind size source destination options) x t e = t
no-pass (Eof condition checksum size tlvs) x t e = t
no-pass (Prompt keep_alive) x t e = t

no-pass-forth : (put : Put) (large : Bool) (v : Content) (m : OctetMap) (files : FileMap) (r : ReceiverState) → IsTrueForth put v → receiver_after Done large v m files r ≡ None → ⊥
no-pass-forth put large (Metadata kind size source destination options) m files r t e = absurd cc
no-pass-forth put large (FileData offset bytes) m files r t e = absurd cc
no-pass-forth put large (Eof condition checksum size tlvs) m files r t e = absurd cc
no-pass-forth put large (Ack acknowledged.Finished condition status) m files r t e = absurd cc
no-pass-forth put large (Prompt keep_alive) m files r t e = absurd cc
no-pass-forth put large (Ack acknowledged.Eof condition status) m files r t e = t
no-pass-forth put large (Finished condition delivery status tlvs) m files r t e = t
no-pass-forth put large (Nak start end pairs) m files r t e = t
no-pass-forth put large (KeepAlive progress) m files r t e = t

-- ---- the course of a transaction
abbrev pub CourseIn : Put → (awake acks files ends : Bool) → Exchange → Type 0
CourseIn put awake acks files ends e = IsCourse put awake acks files ends e.sender e.receiver e.forth e.back e.told e.told_there

-- what is true of it alone, without its debts
pub truth-alone : (put : Put) (awake acks files ends : Bool) (e : Exchange) → CourseIn put awake acks files ends e → CourseIn put awake false false false e
truth-alone put awake acks files ends e c = record {
  truth = c.truth;
  active = c.active;
  ack_comes = λ f. absurd (false≢true f);
  file_comes = λ f. absurd (false≢true f);
  end_comes = λ f. absurd (false≢true f);
}

module _ (put : Put) (awake acks files ends : Bool) where
  laws : CourseLaws
  laws = course-laws

  abbrev Course : Exchange → Type 0
  Course e = CourseIn put awake acks files ends e

  module _ (a b : Exchange) (size : a.sender.size ≡ length put.octets) (h : Course a) where
    -- with what its parts are
    with-forth : (l : List Content) → a.forth ≡ l → IsCourse put awake acks files ends a.sender a.receiver l a.back a.told a.told_there
    with-forth l e = subst (λ l. IsCourse put awake acks files ends a.sender a.receiver l a.back a.told a.told_there) e h

    with-back : (l : List Content) → a.back ≡ l → IsCourse put awake acks files ends a.sender a.receiver a.forth l a.told a.told_there
    with-back l e = subst (λ l. IsCourse put awake acks files ends a.sender a.receiver a.forth l a.told a.told_there) e h

    with-receiver : (o : Option ReceiverState) → a.receiver ≡ o → IsCourse put awake acks files ends a.sender o a.forth a.back a.told a.told_there
    with-receiver o e = subst (λ o. IsCourse put awake acks files ends a.sender o a.forth a.back a.told a.told_there) e h

    with-both : (o : Option ReceiverState) (l : List Content) → a.receiver ≡ o → a.forth ≡ l → IsCourse put awake acks files ends a.sender o l a.back a.told a.told_there
    with-both o l e f = subst (λ o. IsCourse put awake acks files ends a.sender o l a.back a.told a.told_there) e (with-forth l f)

    sends : SenderSends put a b → Course b
    sends s = subst Course (sym s.is)
        (laws.sender_sends put awake acks files ends a.sender a.receiver a.forth a.back a.told a.told_there s.due s.own.is_sender s.own.in_file s.is_due h
        (tells-well put awake _ (sends-well put.octets a.sender s.due h.truth.not_cancelled).told))

    hears : SenderHears put a b → Course b
    hears s =
        let c = with-back (s.heard ∷ s.rest) s.front in
        subst Course (sym s.is)
        (laws.sender_hears put awake acks files ends a.sender a.receiver a.forth [] s.rest s.heard a.told a.told_there s.after s.own.is_sender s.own.in_file s.is_after c
        (tells-well put awake _ (hears-back-well s.heard a.sender s.after c.truth.true_back.0 s.is_after h.truth.not_cancelled).told))

    passes : SenderPasses a b → Course b
    passes s = absurd (no-pass s.heard a.sender (with-back (s.heard ∷ s.rest) s.front).truth.true_back.0 s.none)

    takes : ReceiverTakes put a b → Course b
    takes s = subst Course (sym s.is)
        (laws.receiver_takes put awake acks files ends a.sender s.receiver a.forth a.back a.told a.told_there s.due s.octets s.files s.own s.is_due
        (with-receiver (Some s.receiver) s.is_receiver) (record { good = refl; unpaused = λ _. refl }))

    receives : ReceiverHears put a b → Course b
    receives s =
        let c = with-both (Some s.receiver) (s.heard ∷ s.rest) s.is_receiver s.front in
        subst Course (sym s.is)
        (laws.receiver_hears put awake acks files ends a.sender s.receiver [] s.rest a.back s.large s.heard a.told a.told_there Done s.octets s.files s.after s.own size s.is_after c
        (tells-well put awake s.after.told (heard-good put a b s c.truth.true_forth.0)))

    ignores : ReceiverPasses a b → Course b
    ignores s = absurd (no-pass-forth put s.large s.heard s.octets s.files s.receiver (with-forth (s.heard ∷ s.rest) s.front).truth.true_forth.0 s.none)

    opens-one : ReceiverOpens put a b → Course b
    opens-one s =
        let c = with-both None (s.heard ∷ s.rest) s.none s.front in
        let o : OpensWell put a b s = opened-well put a b s c.truth.true_forth.0 in
        let d = laws.receiver_opens put awake acks files ends a.sender [] s.rest a.back s.large s.heard a.told a.told_there Done Done s.files s.addressing s.own size s.opening c
        (tells-well put awake (opened-by put a b s).told o.good) in
        subst Course (sym s.is)
        (subst (λ (l : List Indication). IsCourse put awake acks files ends a.sender (Some s.receiver) s.rest a.back a.told (told_with put a.told_there l)) (sym o.told)
        (subst (λ r. IsCourse put awake acks files ends a.sender (Some r) s.rest a.back a.told (told_with put a.told_there (opened-by put a b s).told)) (sym o.receiver) d))

    unheard : GoesUnheard a b → Course b
    unheard s = subst Course (sym s.is)
        (subst (λ o. IsCourse put awake acks files ends a.sender o s.rest a.back a.told a.told_there) (sym s.none)
        (laws.none_hears put awake acks files ends a.sender [] s.rest a.back s.heard a.told a.told_there s.opens_none (with-both None (s.heard ∷ s.rest) s.none s.front)))

    overtakes : Overtakes a b → Course b
    overtakes s = subst Course (sym s.is) (swapped-course put a.sender a.receiver a.forth s.forth a.back s.back a.told a.told_there s.swaps s.swaps_back awake acks files ends h)

    tells : TellsMore a b → Course b
    tells s = subst Course (sym s.is)
        (laws.told_more put awake acks files ends a.sender a.receiver a.forth a.back a.told s.told a.told_there s.told_there s.stays s.stays_there h)

    settles-course : Settles put a b → Course b
    settles-course (inl s) = sends s
    settles-course (inr (inl s)) = hears s
    settles-course (inr (inr (inl s))) = passes s
    settles-course (inr (inr (inr (inl s)))) = takes s
    settles-course (inr (inr (inr (inr (inl s))))) = receives s
    settles-course (inr (inr (inr (inr (inr (inl s)))))) = ignores s
    settles-course (inr (inr (inr (inr (inr (inr (inl s))))))) = opens-one s
    settles-course (inr (inr (inr (inr (inr (inr (inr (inl s)))))))) = unheard s
    settles-course (inr (inr (inr (inr (inr (inr (inr (inr (inl s))))))))) = overtakes s
    settles-course (inr (inr (inr (inr (inr (inr (inr (inr (inr s))))))))) = tells s

pub runs-course : (n : ℕ) (put : Put) (awake acks files ends : Bool) (a b : Exchange) → a.sender.size ≡ length put.octets
    → IsCourse put awake acks files ends a.sender a.receiver a.forth a.back a.told a.told_there → Runs n put a b
    → IsCourse put awake acks files ends b.sender b.receiver b.forth b.back b.told b.told_there
unfolding Runs
runs-course zero put awake acks files ends a b size h runs = subst (CourseIn put awake acks files ends) (sym runs) h
runs-course (suc n) put awake acks files ends a b size h runs =
    let keeps : ExchangeKeeps a runs.0 = runs-keep n put a runs.0 runs.1.0 in
    settles-course put awake acks files ends runs.0 b (keeps.sender.size ∙ size) (runs-course n put awake acks files ends a runs.0 size h runs.1.0) runs.1.1
