-- What each step of a receiver does to the course of a put of the other entity.
use Rattle.std.proofs.Common.{◌≡◌, ◌≢◌, Bool, false, List, [], ◌∷◌, ◌++◌, length, Option, Some, None, refl, sym, ap, subst}
use Rattle.std.specs.FinMap as map
use Rattle.std.proofs.lemmas.Bool.{or_left}
use Rattle.cfdp_header.specs.Files.{FileMap}
use Rattle.cfdp_directives.specs.declared.pdu.addressing.Addressing.{Addressing}
use Rattle.cfdp_directives.specs.declared.pdu.codes.Acknowledged.TheVariants as acknowledged
use Rattle.cfdp_directives.specs.declared.user.limits.Times.{Times}
use Rattle.cfdp_directives.specs.declared.user.policy.Policy.{Policy}
use Rattle.cfdp_directives.specs.Pdu.Content.{Content, FileData, Metadata, Eof, Finished, Ack, Nak, Prompt, KeepAlive}
use Rattle.cfdp_directives.specs.User.Put.{Put}
use Rattle.cfdp_store.specs.declared.stored.Stored.{Stored}
use Rattle.cfdp_store.specs.declared.stored.Stored.TheVariants.{Done, Refused}
use Rattle.cfdp_store.specs.Staged.{OctetMap}
use Rattle.cfdp_timers.specs.declared.kind.Kind.{Kind}
use Rattle.cfdp_sender.specs.State.{SenderState}
use Rattle.cfdp_receiver.specs.declared.due.Due.{Due}
use Rattle.cfdp_receiver.specs.Due.{receiver_due, receiver_says}
use Rattle.cfdp_receiver.specs.Sound.{opens_hearing}
use Rattle.cfdp_receiver.specs.State.{ReceiverState, opened_receiver}
use Rattle.cfdp_receiver.specs.Steps as steps
use Rattle.cfdp_receiver.specs.Steps.{ReceiverAfter}
use Rattle.cfdp_entity.specs.declared.request.Request.{Request}
use Rattle.cfdp_entity.specs.Opening.{begins, opens, opens_by, error_of}
use Rattle.cfdp_entity.specs.Seen.{Seen, Receives, receiver_content, octets_seen}
use Rattle.cfdp_entity.specs.Steps.{by_receiver, no_step, receiver_after, if_receiver, called_receiver, receiver_takes, hears, calls, expires, takes, Spoils}
use Rattle.cfdp_entity.proofs.Sparing.{spoils-receives}
use Rattle.link_sim.specs.Course.{IsCourse}
use Rattle.link_sim.specs.Work.{opening_work}
use Rattle.link_sim.proofs.Course.Laws.{CourseLaws, TellsWell, told_with}
use Rattle.link_sim.proofs.EveryPut.Goes.{ReceiverGoes, ReceiverOpens}

module _ (laws : CourseLaws) (lossless : Bool) (put : Put) (x : SenderState) (size : x.size ≡ length put.octets) where
  -- ---- a record that receives
  module _ (r : ReceiverState) (m : OctetMap) (is_id : r.addressing.id ≡ put.id) where
    -- it stays as it is
    rests : (forth back : List Content) (files : FileMap) (n : OctetMap) → ReceiverGoes lossless put x r (no_step files (Receives r n)) forth forth back back
    rests forth back files n = record {
      receiver = r;
      octets = n;
      is_receiver = refl;
      course = λ b c good h. laws.told_more put lossless lossless lossless lossless x (Some r) forth back b b c (told_with put c []) (λ t. t) (λ t. or_left c false t) h;
    }

    pub receiver-expires : (policy : Policy) (files : FileMap) (k : Kind) (forth back : List Content) → ReceiverGoes lossless put x r (expires policy files k (Receives r m)) forth forth back back
    receiver-expires policy files k forth back = record {
      receiver = _;
      octets = _;
      is_receiver = refl;
      course = λ b c good h. laws.receiver_expires put lossless lossless lossless lossless x r forth back b c k policy m files is_id size h good;
    }

    pub receiver-called : (times : Times) (files : FileMap) (call : Request) (forth back : List Content) → ReceiverGoes lossless put x r (calls times files call (Receives r m)) forth forth back back
    receiver-called times files call forth back = by (called_receiver call m files r) refl
      where
        by : (o : Option ReceiverAfter) → called_receiver call m files r ≡ o → ReceiverGoes lossless put x r (if_receiver times files r m o) forth forth back back
        by (Some a) is = record {
          receiver = a.receiver;
          octets = octets_seen a.receiver a.octets;
          is_receiver = refl;
          course = λ b c good h. laws.receiver_called put lossless lossless lossless lossless x r forth back b c call m files a is_id is h good;
        }
        by None is = rests forth back files m

    pub receiver-takes : (stored : Stored) (times : Times) (sources files : FileMap) (v : Content) (forth back : List Content) → receiver_content r (receiver_due r) ≡ Some v
        → ReceiverGoes lossless put x r (takes stored times sources files (Receives r m)) forth forth back (back ++ v ∷ [])
    receiver-takes stored times sources files v forth back says = by (receiver_due r) refl says
      where
        by : (o : Option Due) → receiver_due r ≡ o → receiver_content r o ≡ Some v → ReceiverGoes lossless put x r (receiver_takes times files r m o) forth forth back (back ++ v ∷ [])
        by None is none = absurd cc
        by (Some d) is says_so =
            let same : receiver_says r d ≡ v = cc in
            subst (λ w. ReceiverGoes lossless put x r (by_receiver times (steps.takes d m files r)) forth forth back (back ++ w ∷ [])) same (record {
              receiver = _;
              octets = _;
              is_receiver = refl;
              course = λ b c good h. laws.receiver_takes put lossless lossless lossless lossless x r forth back b c d m files is_id is h good;
            })

    -- it hears the PDU at the front
    module _ (times : Times) (files : FileMap) (stored : Stored) (rest back : List Content) where
      heard : (large : Bool) (v : Content) (a : ReceiverAfter) → receiver_after stored large v m files r ≡ Some a → ReceiverGoes lossless put x r (by_receiver times a) (v ∷ rest) rest back back
      heard large v a is = record {
        receiver = a.receiver;
        octets = octets_seen a.receiver a.octets;
        is_receiver = refl;
        course = λ b c good h. laws.receiver_hears put lossless lossless lossless lossless x r [] rest back large v b c stored m files a is_id size is h good;
      }

      pub receiver-hears : (large : Bool) (v : Content) → ReceiverGoes lossless put x r (hears stored times files large v (Receives r m)) (v ∷ rest) rest back back
      receiver-hears large (Metadata kind size source destination options) = heard large _ _ refl
      receiver-hears large (FileData offset bytes) = heard large _ _ refl
      receiver-hears large (Eof condition checksum size tlvs) = heard large _ _ refl
      receiver-hears large (Ack acknowledged.Finished condition status) = heard large _ _ refl
      receiver-hears large (Prompt keep_alive) = heard large _ _ refl
      receiver-hears large (Ack acknowledged.Eof condition status) = record { receiver = r; octets = m; is_receiver = refl; course = λ b c good h. absurd (h.truth.true_forth.0) }
      receiver-hears large (Finished condition delivery status tlvs) = record { receiver = r; octets = m; is_receiver = refl; course = λ b c good h. absurd (h.truth.true_forth.0) }
      receiver-hears large (Nak start end pairs) = record { receiver = r; octets = m; is_receiver = refl; course = λ b c good h. absurd (h.truth.true_forth.0) }
      receiver-hears large (KeepAlive progress) = record { receiver = r; octets = m; is_receiver = refl; course = λ b c good h. absurd (h.truth.true_forth.0) }

  -- ---- a record that is opened by the PDU at the front
  module _ (a : Addressing) (is_id : a.id ≡ put.id) (times : Times) (files : FileMap) (large : Bool) (begun stored : Stored) (rest back : List Content) where
    begins-well : (v : Content) → (opening_work v ≢ 0) → (b c : Bool) (begun : Stored) (o : ReceiverAfter) → o ≡ opens_hearing begun stored large v files a →
        TellsWell put lossless o.told →
        IsCourse put lossless lossless lossless lossless x None (v ∷ rest) back b c
        → IsCourse put lossless lossless lossless lossless x (Some o.receiver) rest back b (told_with put c o.told)
    begins-well v opening b c begun o is good h =
        subst (λ (p : ReceiverAfter). TellsWell put lossless p.told → IsCourse put lossless lossless lossless lossless x (Some p.receiver) rest back b (told_with put c p.told)) (sym is)
        (λ well. laws.receiver_opens put lossless lossless lossless lossless x [] rest back large v b c begun stored files a is_id size opening h well) good

    began : (begun : Stored) (v : Content) (b c : Bool) → opening_work v ≢ 0 → (o : ReceiverAfter) → receiver_after stored large v map.empty files (opened_receiver a) ≡ Some o →
        opens_hearing Done stored large v files a ≡ o
        → TellsWell put lossless (begins begun stored times files large v a).told → IsCourse put lossless lossless lossless lossless x None (v ∷ rest) back b c
        → (r : ReceiverState) × ((m : OctetMap) × (((begins begun stored times files large v a).seen ≡ Receives r m)
        × IsCourse put lossless lossless lossless lossless x (Some r) rest back b (told_with put c (begins begun stored times files large v a).told)))
    began Done v b c opening o is same good h = subst
        (λ p. TellsWell put lossless (if_receiver times files (opened_receiver a) map.empty p).told → (r : ReceiverState)
        × ((m : OctetMap) × (((if_receiver times files (opened_receiver a) map.empty p).seen ≡ Receives r m)
        × IsCourse put lossless lossless lossless lossless x (Some r) rest back b (told_with put c (if_receiver times files (opened_receiver a) map.empty p).told))))
        (sym is) (λ well. (o.receiver, (octets_seen o.receiver o.octets, (refl, begins-well v opening b c Done o (sym same) well h)))) good
    began Refused v b c opening o is same good h = (
      (steps.opens Refused large files a).receiver,
      (
        octets_seen (steps.opens Refused large files a).receiver (steps.opens Refused large files a).octets,
        (refl, begins-well v opening b c Refused (steps.opens Refused large files a) refl good h),
      ),
    )

    pub receiver-opened : (v : Content) → opening_work v ≢ 0 → ReceiverOpens lossless put x (opens begun stored times files large v a) (v ∷ rest) rest back
    receiver-opened (Metadata kind size source destination options) opening b c good h = began begun _ b c opening _ refl refl good h
    receiver-opened (FileData offset bytes) opening b c good h = began begun _ b c opening _ refl refl good h
    receiver-opened (Eof condition checksum size tlvs) opening b c good h =
        let no : error_of condition ≡ None = ap error_of h.truth.true_forth.0.0 in
        subst (λ o. TellsWell put lossless (opens_by o begun stored times files large (Eof condition checksum size tlvs) a).told → (r : ReceiverState)
        × ((m : OctetMap) × (((opens_by o begun stored times files large (Eof condition checksum size tlvs) a).seen ≡ Receives r m)
        × IsCourse put lossless lossless lossless lossless x (Some r) rest back b (told_with put c (opens_by o begun stored times files large (Eof condition checksum size tlvs) a).told))))
        (sym no) (λ well. began begun _ b c opening _ refl refl well h) good
    receiver-opened (Ack of condition status) opening b c good h = absurd (opening refl)
    receiver-opened (Finished condition delivery status tlvs) opening b c good h = absurd (opening refl)
    receiver-opened (Nak start end pairs) opening b c good h = absurd (opening refl)
    receiver-opened (Prompt keep_alive) opening b c good h = absurd (opening refl)
    receiver-opened (KeepAlive progress) opening b c good h = absurd (opening refl)

-- ---- it found no memory for the PDU at the front, which is lost
module _ (laws : CourseLaws) (put : Put) (x : SenderState) (r : ReceiverState) (m : OctetMap) (files : FileMap) (rest back : List Content) where
  pub receiver-spoils : (v : Content) (new : Seen) → Spoils v (Receives r m) new → ReceiverGoes false put x r (no_step files new) (v ∷ rest) rest back back
  receiver-spoils v new spoils = let k = spoils-receives v r m new spoils in record {
    receiver = r;
    octets = k.0;
    is_receiver = k.1.0;
    course = λ b c good h. laws.told_more put false false false false x (Some r) rest back b b c (told_with put c []) (λ t. t) (λ t. or_left c false t)
        (laws.lost_forth put x (Some r) [] rest back v b c h);
  }
