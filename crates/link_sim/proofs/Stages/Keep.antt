-- What the steps of a settling leave of a sender and of a receiver: what was answered or closed stays
-- so, and no count rises.
use Rattle.std.proofs.Common.{◌≡◌, inl, inr, ℕ, zero, suc, ◌+◌, ◌≤◌, ◌==◌, ◌&&◌, not, min, nat_lt, Bool, true, false, List, [], ◌∷◌, length, Option, Some, None, is_some, is_none, refl, sym, ap, subst, ◌∙◌, arith, if◌then◌else◌}
use Rattle.std.specs.FinSet as set
use Rattle.std.proofs.lemmas.Bool.{false≢true, true≢false, cond_both}
use Rattle.cfdp_header.specs.Files.{FileMap}
use Rattle.cfdp_directives.specs.declared.pdu.codes.Acknowledged.TheVariants as acknowledged
use Rattle.cfdp_directives.specs.declared.user.indication.Indication.TheVariants as indication
use Rattle.cfdp_directives.specs.Pdu.Codes.{no_error, file_checksum_failure, file_size_error, unsupported_checksum_type}
use Rattle.cfdp_directives.specs.Pdu.Content.{Content, FileData, Metadata, Eof, Finished, Ack, Nak, Prompt, KeepAlive}
use Rattle.cfdp_directives.specs.User.Put.{Put}
use Rattle.cfdp_directives.specs.User.Policy.{finished_told}
use Rattle.cfdp_extents.specs.Offsets.{range}
use Rattle.cfdp_store.specs.declared.stored.Stored.TheVariants.{Done}
use Rattle.cfdp_store.specs.Staged.{OctetMap}
use Rattle.cfdp_sender.specs.declared.due.SenderDue.{SenderDue}
use Rattle.cfdp_sender.specs.declared.due.SenderDue.TheVariants as dues
use Rattle.cfdp_sender.specs.declared.phase.SenderPhase.{SenderPhase}
use Rattle.cfdp_sender.specs.declared.phase.SenderPhase.TheVariants as sending
use Rattle.cfdp_sender.specs.State.{SenderState}
use Rattle.cfdp_sender.specs.Steps.{SenderAfter, sender_sends, sender_hears_ack, sender_hears_nak, sender_hears_finished, sender_hears_keep_alive, hears_ack, asks, asks_all, asks_in}
use Rattle.cfdp_sender.specs.Steps as sender
use Rattle.cfdp_receiver.specs.declared.due.Due.{Due}
use Rattle.cfdp_receiver.specs.declared.due.Due.TheVariants as due
use Rattle.cfdp_receiver.specs.declared.state.Ending.{Ending}
use Rattle.cfdp_receiver.specs.declared.state.FileInfo.{FileInfo}
use Rattle.cfdp_receiver.specs.declared.state.ReceiverPhase.{ReceiverPhase}
use Rattle.cfdp_receiver.specs.declared.state.ReceiverPhase.TheVariants as receiving
use Rattle.cfdp_receiver.specs.Pieces.{new_pieces, staged_with}
use Rattle.cfdp_receiver.specs.Sound.{hears_content, receiver_hears}
use Rattle.cfdp_receiver.specs.State.{ReceiverState, flagged, is_receiving, is_finishing}
use Rattle.cfdp_receiver.specs.Steps.{ReceiverAfter, leaving, telling, closed, faulted, agrees, published_by, completed_by, completed, is_supported, receives_metadata, exceeds, with_data, receives_new, receives_data, contradicts, first_eof, cancelled_by, receives_eof, prompted_for, takes}
use Rattle.cfdp_entity.specs.Steps.{sender_after}
use Rattle.link_sim.specs.Exchange.{is_closed_in, is_closed, maybe}
use Rattle.link_sim.specs.Runs.{Exchange, Settles, Runs}
use Rattle.link_sim.specs.Stages.{is_answered_in, is_answered}
use Rattle.link_sim.proofs.Course.Receives.{after-is}

-- ---- a sender
pub record SenderKeeps (x y : SenderState) : Type 0 where
  pub size : y.size ≡ x.size
  pub segment : y.segment ≡ x.segment
  pub count : y.count ≡ x.count
  pub closed : x.phase ≡ sending.Closed → y.phase ≡ sending.Closed
  pub answered : is_answered x ≡ true → is_answered y ≡ true

itself-keeps : (x : SenderState) → SenderKeeps x x
itself-keeps x = record { size = refl; segment = refl; count = refl; closed = λ h. h; answered = λ h. h }

then-keeps : (x y z : SenderState) → SenderKeeps x y → SenderKeeps y z → SenderKeeps x z
then-keeps x y z a b = record {
  size = b.size ∙ a.size;
  segment = b.segment ∙ a.segment;
  count = b.count ∙ a.count;
  closed = λ h. b.closed (a.closed h);
  answered = λ h. b.answered (a.answered h);
}

sends-keeps : (file : List ℕ) (x : SenderState) (d : SenderDue) → SenderKeeps x (sender_sends Done file x d).sender
sends-keeps file x (dues.AckOfFinished condition) = record { size = refl; segment = refl; count = refl; closed = λ h. h; answered = λ h. h }
sends-keeps file x (dues.Prompt keep_alive) = record { size = refl; segment = refl; count = refl; closed = λ h. h; answered = λ h. h }
sends-keeps file x dues.Metadata = record { size = refl; segment = refl; count = refl; closed = λ h. h; answered = λ h. h }
sends-keeps file x (dues.AskedData start end) = record { size = refl; segment = refl; count = refl; closed = λ h. h; answered = λ h. h }
sends-keeps file x (dues.NewData start end) = record { size = refl; segment = refl; count = refl; closed = λ h. h; answered = λ h. h }
sends-keeps file x dues.Eof = record { size = refl; segment = refl; count = refl; closed = λ h. h; answered = λ h. h }

-- what a NAK asks for
one-keeps : (p : ℕ × ℕ) (x : SenderState) → SenderKeeps x (asks p x)
one-keeps p x = cond_both ((p.0 == 0) && (p.1 == 0)) (record x { metadata_due = true })
    (if nat_lt p.0 (min p.1 x.sent) then record x { asked = set.union x.asked (range p.0 (min p.1 x.sent)) } else x) (SenderKeeps x)
    (λ _. record { size = refl; segment = refl; count = refl; closed = λ h. h; answered = λ h. h })
    (λ _. cond_both (nat_lt p.0 (min p.1 x.sent)) (record x { asked = set.union x.asked (range p.0 (min p.1 x.sent)) }) x (SenderKeeps x)
    (λ _. record { size = refl; segment = refl; count = refl; closed = λ h. h; answered = λ h. h })
    (λ _. itself-keeps x))

pairs-keep : (ps : List (ℕ × ℕ)) (x : SenderState) → SenderKeeps x (asks_all ps x)
pairs-keep [] x = itself-keeps x
pairs-keep (p ∷ ps) x = then-keeps x (asks p x) (asks_all ps (asks p x)) (one-keeps p x) (pairs-keep ps (asks p x))

nak-keeps : (phase : SenderPhase) (ps : List (ℕ × ℕ)) (x : SenderState) → SenderKeeps x (asks_in phase ps x)
nak-keeps sending.Sending ps x = pairs-keep ps x
nak-keeps sending.Cancelling ps x = itself-keeps x
nak-keeps sending.Closed ps x = itself-keeps x

ended-keeps : (x : SenderState) (ack : Option ℕ) → SenderKeeps x (record (sender.closed x) { ack_due = ack })
ended-keeps x ack = record { size = refl; segment = refl; count = refl; closed = λ _. refl; answered = λ _. refl }

ack-keeps : (phase : SenderPhase) (condition : ℕ) (x : SenderState) → x.phase ≡ phase → SenderKeeps x (hears_ack phase condition x).sender
ack-keeps sending.Sending condition x is = cond_both (x.eof_taken && (condition == no_error)) (record x { acknowledged = true; eof_due = false }) x (SenderKeeps x)
    (λ _. record { size = refl; segment = refl; count = refl; closed = λ h. h; answered = λ _. ap (λ p. is_answered_in p true) is })
    (λ _. itself-keeps x)
ack-keeps sending.Cancelling condition x is =
    cond_both (condition == x.condition) (sender.hearing (finished_told x.addressing.id (sender.cancelled x) ∷ []) (sender.closed x)) (sender.hearing [] x)
    (λ (a : SenderAfter). SenderKeeps x a.sender)
    (λ _. record { size = refl; segment = refl; count = refl; closed = λ _. refl; answered = λ _. refl })
    (λ _. itself-keeps x)
ack-keeps sending.Closed condition x is = itself-keeps x

after-one : (x : SenderState) (a b : SenderAfter) → Some a ≡ Some b → SenderKeeps x a.sender → SenderKeeps x b.sender
after-one x a b e k = subst (λ (c : SenderAfter). SenderKeeps x c.sender) (let same : a ≡ b = cc in same) k

hears-keeps : (v : Content) (x : SenderState) (a : SenderAfter) → sender_after v x ≡ Some a → SenderKeeps x a.sender
hears-keeps (Ack acknowledged.Eof condition status) x a e = after-one x _ a e (ack-keeps x.phase condition x refl)
hears-keeps (Nak start end pairs) x a e = after-one x _ a e (nak-keeps x.phase pairs x)
hears-keeps (Finished condition delivery status tlvs) x a e = after-one x _ a e (ended-keeps x (Some condition))
hears-keeps (KeepAlive progress) x a e = after-one x _ a e (itself-keeps x)
hears-keeps (Ack acknowledged.Finished condition status) x a e = absurd cc
hears-keeps (FileData offset bytes) x a e = absurd cc
hears-keeps (Metadata kind size source destination options) x a e = absurd cc
hears-keeps (Eof condition checksum size tlvs) x a e = absurd cc
hears-keeps (Prompt keep_alive) x a e = absurd cc

-- ---- a receiver
pub record Fewer (r s : ReceiverState) : Type 0 where
  pub naks : s.nak_count ≤ r.nak_count
  pub finisheds : s.finished_count ≤ r.finished_count

pub record ReceiverKeeps (r s : ReceiverState) : Type 0 where
  pub fewer : Fewer r s
  pub closed : r.phase ≡ receiving.Closed → s.phase ≡ receiving.Closed

same-fewer : (r : ReceiverState) → Fewer r r
same-fewer r = record { naks = omega arith; finisheds = omega arith }

then-receives : (r s t : ReceiverState) → ReceiverKeeps r s → ReceiverKeeps s t → ReceiverKeeps r t
then-receives r s t a b =
    let n : s.nak_count ≤ r.nak_count = a.fewer.naks in
    let m : t.nak_count ≤ s.nak_count = b.fewer.naks in
    let f : s.finished_count ≤ r.finished_count = a.fewer.finisheds in
    let g : t.finished_count ≤ s.finished_count = b.fewer.finisheds in
    record { fewer = record { naks = omega (arith, n, m); finisheds = omega (arith, f, g) }; closed = λ h. b.closed (a.closed h) }

takes-keeps : (r : ReceiverState) (d : Due) (m : OctetMap) (files : FileMap) → ReceiverKeeps r (takes d m files r).receiver
takes-keeps r (due.AckOfEof condition) m files = record { fewer = record { naks = omega arith; finisheds = omega arith }; closed = λ h. h }
takes-keeps r (due.Nak cursor) m files = record { fewer = record { naks = omega arith; finisheds = omega arith }; closed = λ h. h }
takes-keeps r due.KeepAlive m files = record { fewer = record { naks = omega arith; finisheds = omega arith }; closed = λ h. h }
takes-keeps r (due.Finished o) m files = record { fewer = record { naks = omega arith; finisheds = omega arith }; closed = λ h. h }

module _ (m : OctetMap) (files : FileMap) (r : ReceiverState) where
  abbrev FewerAfter : ReceiverAfter → Type 0
  FewerAfter a = Fewer r a.receiver

  faulted-fewer : (condition : ℕ) (n : OctetMap) (s : ReceiverState) → FewerAfter (faulted condition n files s)
  faulted-fewer condition n s = record { naks = omega arith; finisheds = omega arith }

  by-fewer : (n : OctetMap) (info : Option FileInfo) (ending : Option Ending) (s : ReceiverState) → Fewer r s → FewerAfter (completed_by Done info ending n files s)
  by-fewer n (Some info) (Some ending) s f =
      cond_both (set.is_subset (range 0 ending.size) s.held) (if agrees info ending s.sums then published_by Done info ending n files s else faulted file_checksum_failure n files s)
      (leaving n files s) FewerAfter
      (λ _. cond_both (agrees info ending s.sums) (published_by Done info ending n files s) (faulted file_checksum_failure n files s) FewerAfter
      (λ _. record { naks = omega arith; finisheds = omega arith })
      (λ _. faulted-fewer file_checksum_failure n s))
      (λ _. record { naks = f.naks; finisheds = f.finisheds })
  by-fewer n (Some info) None s f = record { naks = f.naks; finisheds = f.finisheds }
  by-fewer n None ending s f = record { naks = f.naks; finisheds = f.finisheds }

  metadata-fewer : (kind size : ℕ) (source destination : List ℕ) → FewerAfter (receives_metadata Done kind size source destination m files r)
  metadata-fewer kind size source destination =
      let info : FileInfo = record { checksum_kind = kind; destination = destination } in
      let s : ReceiverState = record r { metadata = Some info; nak_count = 0 } in
      cond_both (is_some r.metadata) (leaving m files r) (telling (indication.MetadataRecv r.addressing.id source destination size ∷ [])
      (if is_supported kind then completed Done m files s else faulted unsupported_checksum_type m files s)) FewerAfter
      (λ _. same-fewer r)
      (λ _. cond_both (is_supported kind) (completed Done m files s) (faulted unsupported_checksum_type m files s) FewerAfter
      (λ _. by-fewer m s.metadata s.ending s (record { naks = omega arith; finisheds = omega arith }))
      (λ _. faulted-fewer unsupported_checksum_type m s))

  data-fewer : (large : Bool) (offset : ℕ) (bytes : List ℕ) → FewerAfter (receives_data Done large offset bytes m files r)
  data-fewer large offset bytes =
      let end : ℕ = offset + length bytes in
      let s : ReceiverState = with_data offset bytes r in
      cond_both (exceeds large r.ending end) (faulted file_size_error m files r)
      (if set.is_subset (range offset end) r.held then completed Done m files r else receives_new Done offset bytes m files r) FewerAfter
      (λ _. faulted-fewer file_size_error m r)
      (λ _. cond_both (set.is_subset (range offset end) r.held) (completed Done m files r) (receives_new Done offset bytes m files r) FewerAfter
      (λ _. by-fewer m r.metadata r.ending r (same-fewer r))
      (λ _. by-fewer (staged_with m (new_pieces r.held offset bytes)) s.metadata s.ending s (record { naks = omega arith; finisheds = omega arith })))

  eof-fewer : (large : Bool) (condition checksum size : ℕ) → FewerAfter (receives_eof Done large condition checksum size m files r)
  eof-fewer large condition checksum size =
      let s : ReceiverState = record r { ending = Some (record { checksum = checksum; size = size }); ack_due = Some no_error; nak_cursor = Some 0 } in
      cond_both (not (condition == no_error)) (cancelled_by condition m files r)
      (if is_none r.ending then first_eof Done large checksum size m files r else leaving m files (record r { ack_due = Some no_error; nak_cursor = Some 0 })) FewerAfter
      (λ _. record { naks = omega arith; finisheds = omega arith })
      (λ _. cond_both (is_none r.ending) (first_eof Done large checksum size m files r) (leaving m files (record r { ack_due = Some no_error; nak_cursor = Some 0 })) FewerAfter
      (λ _. cond_both (contradicts large size r) (faulted file_size_error m files s) (completed Done m files s) FewerAfter
      (λ _. faulted-fewer file_size_error m s)
      (λ _. by-fewer m s.metadata s.ending s (record { naks = omega arith; finisheds = omega arith })))
      (λ _. record { naks = omega arith; finisheds = omega arith }))

  -- if it receives, the first of two; otherwise the second, which leaves the phase
  in-phase : (a b : ReceiverAfter) → FewerAfter a → FewerAfter b → b.receiver.phase ≡ r.phase
      → ReceiverKeeps r (if is_receiving r.phase then a else b).receiver
  in-phase a b f g same = cond_both (is_receiving r.phase) a b (λ (c : ReceiverAfter). ReceiverKeeps r c.receiver)
      (λ is. record { fewer = f; closed = λ h. absurd (true≢false (sym is ∙ ap is_receiving h)) })
      (λ _. record { fewer = g; closed = λ h. same ∙ h })

  tidy-keeps : (s : ReceiverState) → ReceiverKeeps r s → (cursor : Option ℕ) → ReceiverKeeps r (record s { nak_cursor = cursor })
  tidy-keeps s k cursor = record { fewer = record { naks = k.fewer.naks; finisheds = k.fewer.finisheds }; closed = λ h. k.closed h }

  prompt-fewer : (keep_alive : Bool) → FewerAfter (leaving m files (prompted_for keep_alive r))
  prompt-fewer true = record { naks = omega arith; finisheds = omega arith }
  prompt-fewer false = record { naks = omega arith; finisheds = omega arith }

  content-keeps : (large : Bool) (v : Content) → ReceiverKeeps r (hears_content Done large v m files r).receiver
  content-keeps large (Metadata kind size source destination options) = tidy-keeps _
      (in-phase (receives_metadata Done kind size source destination m files r) (leaving m files r) (metadata-fewer kind size source destination) (same-fewer r) refl) _
  content-keeps large (FileData offset bytes) = tidy-keeps _ (in-phase (receives_data Done large offset bytes m files r) (leaving m files r) (data-fewer large offset bytes) (same-fewer r) refl) _
  content-keeps large (Eof condition checksum size tlvs) = tidy-keeps _ (in-phase (receives_eof Done large condition checksum size m files r) (leaving m files (record r { ack_due = Some condition }))
      (eof-fewer large condition checksum size) (record { naks = omega arith; finisheds = omega arith }) refl) _
  content-keeps large (Ack acknowledged.Finished condition status) = tidy-keeps _ (cond_both (is_finishing r.phase && r.finished_taken) (closed r) r (ReceiverKeeps r)
      (λ _. record { fewer = record { naks = omega arith; finisheds = omega arith }; closed = λ _. refl })
      (λ _. record { fewer = same-fewer r; closed = λ h. h })) _
  content-keeps large (Ack acknowledged.Eof condition status) = record { fewer = same-fewer r; closed = λ h. h }
  content-keeps large (Prompt keep_alive) = tidy-keeps _ (cond_both (is_receiving r.phase) (prompted_for keep_alive r) r (ReceiverKeeps r)
      (λ is. record { fewer = prompt-fewer keep_alive; closed = λ h. absurd (true≢false (sym is ∙ ap is_receiving h)) })
      (λ _. record { fewer = same-fewer r; closed = λ h. h })) _
  content-keeps large (Finished condition delivery status tlvs) = record { fewer = same-fewer r; closed = λ h. h }
  content-keeps large (Nak start end pairs) = record { fewer = same-fewer r; closed = λ h. h }
  content-keeps large (KeepAlive progress) = record { fewer = same-fewer r; closed = λ h. h }

-- a large file flag changes none of this
pub receiver-keeps : (m : OctetMap) (files : FileMap) (r : ReceiverState) (large : Bool) (v : Content) → ReceiverKeeps r (receiver_hears Done large v m files r).receiver
receiver-keeps m files r large v =
    let k : ReceiverKeeps (flagged large r) (receiver_hears Done large v m files r).receiver = content-keeps m files (flagged large r) large v in
    record { fewer = record { naks = k.fewer.naks; finisheds = k.fewer.finisheds }; closed = k.closed }

-- ---- of a transaction
-- if there was a receiver, there is one still
abbrev pub StaysReceiver : (old new : Option ReceiverState) → Type 0
StaysReceiver (Some r) new = (s : ReceiverState) × ((new ≡ Some s) × ReceiverKeeps r s)
StaysReceiver None new = Unit {0}

pub record ExchangeKeeps (a b : Exchange) : Type 0 where
  pub sender : SenderKeeps a.sender b.sender
  pub receiver : StaysReceiver a.receiver b.receiver

same-receiver : (o : Option ReceiverState) → StaysReceiver o o
same-receiver (Some r) = (r, (refl, record { fewer = same-fewer r; closed = λ h. h }))
same-receiver None = tt

then-receiver : (o p q : Option ReceiverState) → StaysReceiver o p → StaysReceiver p q → StaysReceiver o q
then-receiver (Some r) p q a b =
    let c = subst (λ p. StaysReceiver p q) a.1.0 b in
    (c.0, (c.1.0, then-receives r a.0 c.0 a.1.1 c.1.1))
then-receiver None p q a b = tt

itself : (a : Exchange) → ExchangeKeeps a a
itself a = record { sender = itself-keeps a.sender; receiver = same-receiver a.receiver }

by-receiver : (o p : Option ReceiverState) (r s : ReceiverState) → o ≡ Some r → p ≡ Some s → ReceiverKeeps r s → StaysReceiver o p
by-receiver o p r s e f k = subst (λ o. StaysReceiver o p) (sym e) (s, (f, k))

pub settles-keep : (put : Put) (a b : Exchange) → Settles put a b → ExchangeKeeps a b
settles-keep put a b (inl s) = subst (ExchangeKeeps a) (sym s.is) (record { sender = sends-keeps put.octets a.sender s.due; receiver = same-receiver a.receiver })
settles-keep put a b (inr (inl s)) = subst (ExchangeKeeps a) (sym s.is) (record { sender = hears-keeps s.heard a.sender s.after s.is_after; receiver = same-receiver a.receiver })
settles-keep put a b (inr (inr (inl s))) = subst (ExchangeKeeps a) (sym s.is) (record { sender = itself-keeps a.sender; receiver = same-receiver a.receiver })
settles-keep put a b (inr (inr (inr (inl s)))) = subst (ExchangeKeeps a) (sym s.is) (record {
  sender = itself-keeps a.sender;
  receiver = by-receiver a.receiver _ s.receiver _ s.is_receiver refl (takes-keeps s.receiver s.due s.octets s.files);
})
settles-keep put a b (inr (inr (inr (inr (inl s))))) = subst (ExchangeKeeps a) (sym s.is) (record {
  sender = itself-keeps a.sender;
  receiver = by-receiver a.receiver _ s.receiver s.after.receiver s.is_receiver refl
      (subst (λ (c : ReceiverAfter). ReceiverKeeps s.receiver c.receiver) (sym (after-is Done s.large s.heard s.octets s.files s.receiver s.after s.is_after))
      (receiver-keeps s.octets s.files s.receiver s.large s.heard));
})
settles-keep put a b (inr (inr (inr (inr (inr (inl s)))))) = subst (ExchangeKeeps a) (sym s.is) (record { sender = itself-keeps a.sender; receiver = same-receiver a.receiver })
settles-keep put a b (inr (inr (inr (inr (inr (inr (inl s))))))) = subst (ExchangeKeeps a) (sym s.is) (record {
  sender = itself-keeps a.sender;
  receiver = subst (λ o. StaysReceiver o (Some s.receiver)) (sym s.none) tt;
})
settles-keep put a b (inr (inr (inr (inr (inr (inr (inr (inl s)))))))) = subst (ExchangeKeeps a) (sym s.is) (record { sender = itself-keeps a.sender; receiver = same-receiver a.receiver })
settles-keep put a b (inr (inr (inr (inr (inr (inr (inr (inr (inl s))))))))) = subst (ExchangeKeeps a) (sym s.is) (record { sender = itself-keeps a.sender; receiver = same-receiver a.receiver })
settles-keep put a b (inr (inr (inr (inr (inr (inr (inr (inr (inr s))))))))) = subst (ExchangeKeeps a) (sym s.is) (record { sender = itself-keeps a.sender; receiver = same-receiver a.receiver })

pub runs-keep : (n : ℕ) (put : Put) (a b : Exchange) → Runs n put a b → ExchangeKeeps a b
unfolding Runs
runs-keep zero put a b runs = subst (ExchangeKeeps a) (sym runs) (itself a)
runs-keep (suc n) put a b runs =
    let first : ExchangeKeeps a runs.0 = runs-keep n put a runs.0 runs.1.0 in
    let last : ExchangeKeeps runs.0 b = settles-keep put runs.0 b runs.1.1 in
    record {
      sender = then-keeps a.sender runs.0.sender b.sender first.sender last.sender;
      receiver = then-receiver a.receiver runs.0.receiver b.receiver first.receiver last.receiver;
    }

-- ---- what is over stays so
pub closed-is : (phase : ReceiverPhase) → is_closed_in phase ≡ true → phase ≡ receiving.Closed
closed-is receiving.Receiving h = absurd (false≢true h)
closed-is receiving.Finishing h = absurd (false≢true h)
closed-is receiving.Closed h = refl

pub done-runs : (n : ℕ) (put : Put) (a b : Exchange) → Runs n put a b
    → (is_answered a.sender ≡ true → is_answered b.sender ≡ true) × (maybe is_closed a.receiver ≡ true → maybe is_closed b.receiver ≡ true)
done-runs n put a b runs = (k.sender.answered, closed-stays a.receiver k.receiver)
  where
    k : ExchangeKeeps a b
    k = runs-keep n put a b runs

    closed-stays : (o : Option ReceiverState) → StaysReceiver o b.receiver → maybe is_closed o ≡ true → maybe is_closed b.receiver ≡ true
    closed-stays (Some r) s h = ap (maybe is_closed) s.1.0 ∙ ap is_closed_in (s.1.1.closed (closed-is r.phase h))
    closed-stays None s h = absurd (false≢true h)
