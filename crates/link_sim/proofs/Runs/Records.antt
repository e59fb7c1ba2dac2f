-- What each step of a sender or a receiver, in a settling in which nothing is short, is of the run
-- that its put makes.
use Rattle.std.proofs.Common.{◌≡◌, ◌≢◌, ℕ, ◌||◌, Bool, true, false, List, [], ◌∷◌, ◌++◌, Option, Some, None, inl, inr, refl, sym, ap, subst}
use Rattle.std.specs.List.{list_any}
use Rattle.std.specs.FinMap as map
use Rattle.cfdp_header.specs.Files.{FileMap}
use Rattle.cfdp_directives.specs.declared.pdu.addressing.Addressing.{Addressing}
use Rattle.cfdp_directives.specs.declared.user.limits.Times.{Times}
use Rattle.cfdp_directives.specs.Pdu.Content.{Content, FileData, Metadata, Eof, Finished, Ack, Nak, Prompt, KeepAlive}
use Rattle.cfdp_directives.specs.User.Put.{Put}
use Rattle.cfdp_directives.specs.Pdu.Tlv.{Tlv}
use Rattle.cfdp_store.specs.declared.stored.Stored.{Stored}
use Rattle.cfdp_store.specs.declared.stored.Stored.TheVariants.{Done}
use Rattle.cfdp_store.specs.Staged.{OctetMap}
use Rattle.cfdp_sender.specs.declared.due.SenderDue.{SenderDue}
use Rattle.cfdp_sender.specs.Due.{sender_due, sender_says}
use Rattle.cfdp_sender.specs.State.{SenderState}
use Rattle.cfdp_sender.specs.Steps.{SenderAfter, sender_sends}
use Rattle.cfdp_receiver.specs.declared.due.Due.{Due}
use Rattle.cfdp_receiver.specs.Due.{receiver_due, receiver_says}
use Rattle.cfdp_receiver.specs.Sound.{is_file_fault}
use Rattle.cfdp_receiver.specs.State.{ReceiverState}
use Rattle.cfdp_receiver.specs.Steps as steps
use Rattle.cfdp_receiver.specs.Steps.{ReceiverAfter}
use Rattle.cfdp_entity.specs.Opening.{opens, opens_by, error_of}
use Rattle.cfdp_entity.specs.Seen.{Sends, Receives, sender_content, receiver_content, octets_seen}
use Rattle.cfdp_entity.specs.Steps.{After, by_sender, by_receiver, sender_after, receiver_after, if_sender, if_receiver, sender_takes, receiver_takes, hears, takes}
use Rattle.cfdp_store.specs.Files.{octets_in}
use Rattle.link_sim.specs.Exchange.{IsTrueForth}
use Rattle.link_sim.specs.Runs.{Settles, IsItsSender}
use Rattle.link_sim.specs.Work.{opening_work}
use Rattle.link_sim.proofs.Runs.Places.{SenderTo, ReceiverTo, OpensTo, made}

or-false : (b : Bool) → b ≡ (b || false)
or-false true = refl
or-false false = refl

-- ---- a sender
module _ (put : Put) (x : SenderState) (own : IsItsSender put x) where
  pub sender-takes : (times : Times) (sources files : FileMap) (v : Content) (forth back : List Content) → put.octets ≡ octets_in sources x.source →
      sender_content (octets_in sources x.source) x (sender_due x) ≡ Some v
      → SenderTo put x (takes Done times sources files (Sends x)) forth (forth ++ v ∷ []) back back
  sender-takes times sources files v forth back octets says = by (sender_due x) refl says
    where
      by : (o : Option SenderDue) → sender_due x ≡ o → sender_content (octets_in sources x.source) x o ≡ Some v →
          SenderTo put x (sender_takes Done times files (octets_in sources x.source) x o) forth (forth ++ v ∷ []) back back
      by None is none = absurd cc
      by (Some d) is says_so =
          let same : sender_says (octets_in sources x.source) x d ≡ v = cc in
          subst (λ w. SenderTo put x (by_sender times files (sender_sends Done (octets_in sources x.source) x d)) forth (forth ++ w ∷ []) back back) same
          (subst (λ file. SenderTo put x (by_sender times files (sender_sends Done file x d)) forth (forth ++ sender_says file x d ∷ []) back back) octets (record {
            sender = (sender_sends Done put.octets x d).sender;
            is_sender = refl;
            step = λ o b c. inl (record { own = own; due = d; is_due = is; is = refl });
          }))

  -- it hears the PDU at the front
  pub sender-hears : (times : Times) (files : FileMap) (stored : Stored) (forth rest : List Content) (large : Bool) (v : Content) →
      SenderTo put x (hears stored times files large v (Sends x)) forth forth (v ∷ rest) rest
  sender-hears times files stored forth rest large v = by (sender_after v x) refl
    where
      by : (o : Option SenderAfter) → sender_after v x ≡ o → SenderTo put x (if_sender times files x o) forth forth (v ∷ rest) rest
      by (Some a) is = record {
        sender = a.sender;
        is_sender = refl;
        step = λ o b c. inr (inl (record { own = own; heard = v; rest = rest; front = refl; after = a; is_after = is; is = refl }));
      }
      by None is = record {
        sender = x;
        is_sender = refl;
        step = λ o b c. inr (inr (inl (record { heard = v; rest = rest; front = refl; none = is; is = ap (λ t. made x o forth rest t c) (sym (or-false b)) })));
      }

-- ---- a receiver
module _ (put : Put) (r : ReceiverState) (m : OctetMap) (is_id : r.addressing.id ≡ put.id) where
  pub receiver-takes : (stored : Stored) (times : Times) (sources files : FileMap) (v : Content) (forth back : List Content) → receiver_content r (receiver_due r) ≡ Some v
      → ReceiverTo put r (takes stored times sources files (Receives r m)) forth forth back (back ++ v ∷ [])
  receiver-takes stored times sources files v forth back says = by (receiver_due r) refl says
    where
      by : (o : Option Due) → receiver_due r ≡ o → receiver_content r o ≡ Some v → ReceiverTo put r (receiver_takes times files r m o) forth forth back (back ++ v ∷ [])
      by None is none = absurd cc
      by (Some d) is says_so =
          let same : receiver_says r d ≡ v = cc in
          subst (λ w. ReceiverTo put r (by_receiver times (steps.takes d m files r)) forth forth back (back ++ w ∷ [])) same (record {
            receiver = (steps.takes d m files r).receiver;
            octets = octets_seen (steps.takes d m files r).receiver (steps.takes d m files r).octets;
            is_receiver = refl;
            step = λ x b c. inr (inr (inr (inl (record { receiver = r; is_receiver = refl; own = is_id; due = d; is_due = is; octets = m; files = files; is = refl }))));
          })

  -- it hears the PDU at the front, and of one that is true of its put it indicates no fault of the
  -- file
  pub receiver-hears : (times : Times) (files : FileMap) (rest back : List Content) (large : Bool) (v : Content) →
      ((a : ReceiverAfter) → receiver_after Done large v m files r ≡ Some a → IsTrueForth put v → list_any is_file_fault a.told ≡ false)
      → ReceiverTo put r (hears Done times files large v (Receives r m)) (v ∷ rest) rest back back
  receiver-hears times files rest back large v good = by (receiver_after Done large v m files r) refl
    where
      by : (o : Option ReceiverAfter) → receiver_after Done large v m files r ≡ o → ReceiverTo put r (if_receiver times files r m o) (v ∷ rest) rest back back
      by (Some a) is = record {
        receiver = a.receiver;
        octets = octets_seen a.receiver a.octets;
        is_receiver = refl;
        step = λ x b c. inr (inr (inr (inr (inl (record {
          receiver = r;
          is_receiver = refl;
          own = is_id;
          large = large;
          heard = v;
          rest = rest;
          front = refl;
          octets = m;
          files = files;
          after = a;
          is_after = is;
          good = good a is;
          is = refl;
        })))));
      }
      by None is = record {
        receiver = r;
        octets = m;
        is_receiver = refl;
        step = λ x b c. inr (inr (inr (inr (inr (inl (record {
          receiver = r;
          is_receiver = refl;
          large = large;
          heard = v;
          rest = rest;
          front = refl;
          octets = m;
          files = files;
          none = is;
          is =
              ap (λ t. made x (Some r) rest back b t) (sym (or-false c));
        }))))));
      }

-- ---- if there is none
-- what a PDU opens receives
record Opened (a : After) : Type 0 where
  receiver : ReceiverState
  octets : OctetMap
  is : a.seen ≡ Receives receiver octets

module _ (times : Times) (files : FileMap) (large : Bool) (a : Addressing) where
  opened-eof : (condition checksum size : ℕ) (tlvs : List Tlv) (c : Option ℕ) → Opened (opens_by c Done Done times files large (Eof condition checksum size tlvs) a)
  opened-eof condition checksum size tlvs (Some cause) = record { receiver = steps.opened_closed large cause a; octets = map.empty; is = refl }
  opened-eof condition checksum size tlvs None = record { receiver = _; octets = _; is = refl }

  opened : (v : Content) → opening_work v ≢ 0 → Opened (opens Done Done times files large v a)
  opened (Metadata kind size source destination options) opening = record { receiver = _; octets = _; is = refl }
  opened (FileData offset bytes) opening = record { receiver = _; octets = _; is = refl }
  opened (Eof condition checksum size tlvs) opening = opened-eof condition checksum size tlvs (error_of condition)
  opened (Ack of condition status) opening = absurd (opening refl)
  opened (Finished condition delivery status tlvs) opening = absurd (opening refl)
  opened (Nak start end pairs) opening = absurd (opening refl)
  opened (Prompt keep_alive) opening = absurd (opening refl)
  opened (KeepAlive progress) opening = absurd (opening refl)

  pub receiver-opened : (put : Put) → a.id ≡ put.id → (rest back : List Content) (v : Content) → opening_work v ≢ 0 →
      (IsTrueForth put v → list_any is_file_fault (opens Done Done times files large v a).told ≡ false)
      → OpensTo put (opens Done Done times files large v a) (v ∷ rest) rest back
  receiver-opened put is_id rest back v opening good =
      let o : Opened (opens Done Done times files large v a) = opened v opening in
      record {
        receiver = o.receiver;
        octets = o.octets;
        is_receiver = o.is;
        step = λ x b c. inr (inr (inr (inr (inr (inr (inl (record {
          none = refl;
          large = large;
          heard = v;
          rest = rest;
          front = refl;
          opening = opening;
          addressing = a;
          own = is_id;
          times = times;
          files = files;
          receiver = o.receiver;
          octets = o.octets;
          is_receiver = o.is;
          good = good;
          is = refl;
        })))))));
      }

-- one that opens none is lost
pub goes-by-unheard : (put : Put) (x : SenderState) (b c : Bool) (rest back : List Content) (v : Content) → opening_work v ≡ 0 →
    Settles put (made x None (v ∷ rest) back b c) (made x None rest back b c)
goes-by-unheard put x b c rest back v none = inr (inr (inr (inr (inr (inr (inr (inl (record { none = refl; heard = v; rest = rest; front = refl; opens_none = none; is = refl }))))))))
