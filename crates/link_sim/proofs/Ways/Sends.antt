-- What a send and a flush do to a lane.
use Rattle.std.proofs.Common.{◌≡◌, ℕ, ◌≤◌, List, [], ◌∷◌, ◌++◌, ◌⊎◌, length, refl, sym, ap, subst, ◌∙◌, inl, inr, arith}
use Rattle.std.proofs.lemmas.List.{append-nil}
use Rattle.mpdu.specs.Stream.{stream}
use Rattle.mpdu.specs.Packing.{flush_of}
use Rattle.link_stack.specs.Frames.{packet_of, pdus_in}
use Rattle.link_stack.specs.Downward.{LinkSenderState, IsDown, packing}
use Rattle.mpdu.specs.Packets.{busy}
use Rattle.link_sim.specs.OneWay.{OneWayState, packets_sent, pdus_sent, IsOneWayOf, IsOneWay, SendsMore}
use Rattle.link_sim.proofs.Ways.Sending.{SameChannel, spells, way_is, last_whole, sent_more, none_delivered, pdus_more}

sends_one : (l : OneWayState) (d : LinkSenderState) (q : List ℕ) (pdus : List (List ℕ)) → IsOneWay l → IsDown d (packets_sent l ++ q ∷ []) (length l.frames) → d.waiting ≡ l.down.waiting ++ q →
    SameChannel d l.down → pdus_in (busy (q ∷ [])) ≡ pdus → SendsMore l (record l { down = d }) (q ∷ []) pdus
sends_one l d q pdus is down waits link carries =
    let ps : List (List ℕ) = packets_sent l in
    let new : OneWayState = record l { down = d } in
    let after : IsOneWayOf new (ps ++ q ∷ []) = sent_more l d ps q is down waits link in
    let packets : packets_sent new ≡ ps ++ q ∷ [] = spells new (ps ++ q ∷ []) after in
    record {
      way = way_is new (ps ++ q ∷ []) after;
      packets = packets;
      pdus = ap (λ s. pdus_in (busy s)) packets ∙ pdus_more ps (q ∷ []) ∙ ap (λ s. pdus_in (busy ps) ++ s) carries;
      delivered = none_delivered l d ps q is (last_whole ps q down.packed.packets_whole) packets;
    }

pub sends : (l : OneWayState) (d : LinkSenderState) (count : ℕ) (pdu : List ℕ) → IsOneWay l → IsDown d (packets_sent l ++ packet_of l.down.link count pdu ∷ []) (length l.frames) →
    pdus_in (busy (packet_of l.down.link count pdu ∷ [])) ≡ pdu ∷ [] → d.waiting ≡ l.down.waiting ++ packet_of l.down.link count pdu → SameChannel d l.down →
    SendsMore l (record l { down = d }) (packet_of l.down.link count pdu ∷ []) (pdu ∷ [])
sends l d count pdu is down one waits link = sends_one l d (packet_of l.down.link count pdu) (pdu ∷ []) is down waits link one

-- a list of one item at most
pub one_at_most : {A : Type 0} (xs : List A) → length xs ≤ 1 → (xs ≡ []) ⊎ ((x : A) × (xs ≡ x ∷ []))
one_at_most [] h = inl refl
one_at_most (x ∷ []) h = inr (x, refl)
one_at_most (x ∷ y ∷ xs) h = absurd (omega arith)

pub flushes : (l : OneWayState) (d : LinkSenderState) → IsOneWay l → IsDown d (packets_sent l ++ flush_of (packing l.down)) (length l.frames) → (flush_of (packing l.down) ≡ [] → d ≡ l.down) →
    (length (flush_of (packing l.down)) ≤ 1) × (busy (flush_of (packing l.down)) ≡ []) → d.waiting ≡ l.down.waiting ++ stream (flush_of (packing l.down)) → SameChannel d l.down →
    SendsMore l (record l { down = d }) (flush_of (packing l.down)) []
flushes l d is down same (few, idle) waits link =
    let qs : List (List ℕ) = flush_of (packing l.down) in
    let none : qs ≡ [] → SendsMore l (record l { down = d }) qs [] = λ (e : qs ≡ []).
    let old : SendsMore l l [] [] = record { way = is; packets = sym (append-nil (packets_sent l)); pdus = sym (append-nil (pdus_sent l)); delivered = refl } in
    subst (λ x. SendsMore l (record l { down = d }) x []) (sym e) (subst (λ x. SendsMore l (record l { down = x }) [] []) (sym (same e)) old) in
    let some : (q : List ℕ) × (qs ≡ q ∷ []) → SendsMore l (record l { down = d }) qs [] = λ (w : (q : List ℕ) × (qs ≡ q ∷ [])).
    let q : List ℕ = w.0 in
    let e : qs ≡ q ∷ [] = w.1 in
    let waits2 : d.waiting ≡ l.down.waiting ++ q = waits ∙ ap (λ x. l.down.waiting ++ stream x) e ∙ ap (λ x. l.down.waiting ++ x) (append-nil q) in
    subst (λ x. SendsMore l (record l { down = d }) x []) (sym e) (sends_one l d q [] is (subst (λ x. IsDown d (packets_sent l ++ x) (length l.frames)) e down) waits2 link
    (ap pdus_in (ap busy (sym e) ∙ idle))) in
    elim (one_at_most qs few) [ inl e ↦ none e | inr w ↦ some w ]
