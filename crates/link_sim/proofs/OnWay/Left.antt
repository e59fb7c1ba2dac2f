-- The octets and frames that a direction has left, after each kind of step.
use Rattle.std.proofs.Common.{◌≡◌, ℕ, zero, suc, ◌+◌, ◌-◌, ◌*◌, ◌<◌, ◌≤◌, Bool, List, [], ◌∷◌, ◌++◌, length, refl, ap, subst, ◌∙◌, inl, inr, arith, length-append}
use Rattle.std.proofs.lemmas.Bool.{cases_lt, le-leb, lt-leb}
use Rattle.std.proofs.lemmas.List.{append-nil}
use Rattle.mpdu.specs.Stream.{stream, IsPacket, ArePackets}
use Rattle.mpdu.specs.Packing.{flush_of, idle_packet, idle_len}
use Rattle.mpdu.proofs.Packed.{idle_len-low}
use Rattle.mpdu.proofs.Carried.{packet_short}
use Rattle.link_stack.specs.Downward.{packing}
use Rattle.link_sim.specs.OneWay.{OneWayState, packets_sent, IsOneWay, IsRested, SendsMore}
use Rattle.link_sim.specs.Work.{octets_left}
use Rattle.link_sim.proofs.Ways.Sending.{last_whole}
use Rattle.link_sim.proofs.OnWay.Rests.{zones-more, zones-most, whole_zone, same-link, sent-now, length-idle, flush-is, idle_len-fills}

-- What is sent raises the number by twice its octets at most.
pub left-sends : (old new : OneWayState) (qs texts : List (List ℕ)) → IsOneWay old → SendsMore old new qs texts → IsRested new → new.up ≡ old.up → new.marks ≡ old.marks →
    octets_left new ≤ octets_left old + 2 * length (stream qs)
left-sends old new qs texts is more rests up marks =
    let z : ℕ = old.down.link.zone in
    let zone : new.down.link.zone ≡ z = ap (λ k. k.zone) (same-link old new is more.way up) in
    let m : (k : ℕ) × (length new.frames ≡ length old.frames + k) × (k * z + length new.down.waiting ≡ length old.down.waiting + length (stream qs)) =
    zones-more z (length old.frames) (length new.frames) (length old.down.waiting) (length new.down.waiting) (length (stream qs)) (sent-now old new qs texts is more up)
    (omega (arith, rests.none_waits, zone)) in
    let k : ℕ = m.0 in
    let least : 1 ≤ z = omega (arith, is.sent.valid.least_zone) in
    let most : k ≤ k * z = zones-most z k least in
    omega (arith, m.1, m.2, most, ap length marks)

-- a packet has 65,542 octets at most
pub left-polls : (old new : OneWayState) (q : List ℕ) (texts : List (List ℕ)) → IsOneWay old → SendsMore old new (q ∷ []) texts → IsRested new → new.up ≡ old.up → new.marks ≡ old.marks →
    octets_left new ≤ octets_left old + 131084
left-polls old new q texts is more rests up marks =
    let whole : IsPacket q = last_whole (packets_sent old) q (subst ArePackets more.packets more.way.sent.made.packed.packets_whole) in
    let one : length (stream (q ∷ [])) ≡ length q = ap length (append-nil q) in
    omega (arith, left-sends old new (q ∷ []) texts is more rests up marks, one, packet_short q whole)

-- of a zone with `w` octets waiting, `n` wait after it and the idle packet
idle-fills : (z w k n : ℕ) → 16 ≤ z → 1 ≤ w → w < z → 1 ≤ k → n < z → k * z + n ≡ w + idle_len (z - w) → 2 * n + k < 2 * w
idle-fills z w zero n hz hw lt hk less e = absurd (omega arith)
idle-fills z w (suc j) n hz hw lt hk less e =
    let one : suc j * z ≡ j * z + z = omega arith in
    let most : j ≤ j * z = zones-most z j (omega arith) in
    elim (cases_lt (z - w) 7) [
      | inl c ↦ (let size : idle_len (z - w) ≡ 7 = rw (lt-leb 7 (z - w) c) refl in omega (arith, e, one, most, size, c))
      | inr c ↦ (let size : idle_len (z - w) ≡ z - w = rw (le-leb 7 (z - w) c) refl in omega (arith, e, one, most, size, c))
    ]

-- A flush that makes a frame lowers the number.
pub left-fills : (old new : OneWayState) → IsOneWay old → IsRested old → SendsMore old new (flush_of (packing old.down)) [] → IsRested new → new.up ≡ old.up → new.marks ≡ old.marks →
    length old.frames < length new.frames → octets_left new < octets_left old
left-fills old new is rested more rests up marks grown =
    let z : ℕ = old.down.link.zone in
    let w : ℕ = length old.down.waiting in
    let n : ℕ = length new.down.waiting in
    let qs : List (List ℕ) = flush_of (packing old.down) in
    let zone : new.down.link.zone ≡ z = ap (λ k. k.zone) (same-link old new is more.way up) in
    let m : (k : ℕ) × (length new.frames ≡ length old.frames + k) × (k * z + n ≡ w + length (stream qs)) =
    zones-more z (length old.frames) (length new.frames) w n (length (stream qs)) (sent-now old new qs [] is more up) (omega (arith, rests.none_waits, zone)) in
    let k : ℕ = m.0 in
    let some : 1 ≤ k = omega (arith, m.1, grown) in
    let least : 16 ≤ z = is.sent.valid.least_zone in
    let most : k ≤ k * z = zones-most z k (omega arith) in
    let few : length old.marks ≤ length old.frames = is.sent.taken in
    let never : qs ≡ [] → ⊥ = λ (e : qs ≡ []).
    let nothing : length (stream qs) ≡ 0 = ap (λ l. length (stream l)) e in
    let all : z ≤ k * z = whole_zone z k some in
    omega (arith, m.2, nothing, all, rested.none_waits) in
    let fills : (1 ≤ w) × (qs ≡ idle_packet (idle_len (z - w)) ∷ []) → octets_left new < octets_left old = λ (h : (1 ≤ w) × (qs ≡ idle_packet (idle_len (z - w)) ∷ [])).
    let size : length (stream qs) ≡ idle_len (z - w) = ap (λ l. length (stream l)) h.1 ∙ ap length (append-nil (idle_packet (idle_len (z - w))))
    ∙ length-idle (idle_len (z - w)) (idle_len-low (z - w)) in
    let lower : 2 * n + k < 2 * w = idle-fills z w k n least h.0 rested.none_waits some (omega (arith, rests.none_waits, zone)) (m.2 ∙ ap (λ x. w + x) size) in
    omega (arith, lower, m.1, few, ap length marks) in
    elim (flush-is old rested) [ inl e ↦ absurd (never e) | inr h ↦ fills h ]

-- One that makes none doesn't raise it.
pub left-flushes : (old new : OneWayState) → IsOneWay old → IsRested old → SendsMore old new (flush_of (packing old.down)) [] → IsRested new → new.up ≡ old.up → new.marks ≡ old.marks →
    octets_left new ≤ octets_left old
left-flushes old new is rested more rests up marks =
    let grown : length old.frames < length new.frames → octets_left new ≤ octets_left old = λ (c : length old.frames < length new.frames).
    omega (arith, left-fills old new is rested more rests up marks c) in
    let z : ℕ = old.down.link.zone in
    let zone : new.down.link.zone ≡ z = ap (λ k. k.zone) (same-link old new is more.way up) in
    let qs : List (List ℕ) = flush_of (packing old.down) in
    let m : (k : ℕ) × (length new.frames ≡ length old.frames + k) × (k * z + length new.down.waiting ≡ length old.down.waiting + length (stream qs)) =
    zones-more z (length old.frames) (length new.frames) (length old.down.waiting) (length new.down.waiting) (length (stream qs)) (sent-now old new qs [] is more up)
    (omega (arith, rests.none_waits, zone)) in
    let k : ℕ = m.0 in
    let same : length new.frames ≤ length old.frames → octets_left new ≤ octets_left old = λ (c : length new.frames ≤ length old.frames).
    let none : k ≡ 0 = omega (arith, m.1, c) in
    let nothing : k * z ≡ 0 = ap (λ x. x * z) none ∙ omega arith in
    elim (flush-is old rested) [
      | inl e ↦ (let empty : length (stream qs) ≡ 0 = ap (λ l. length (stream l)) e in omega (arith, m.2, nothing, empty, ap length marks, c))
      | inr h ↦ (let size : length (stream qs) ≡ idle_len (z - length old.down.waiting) =
          ap (λ l. length (stream l)) h.1 ∙ ap length (append-nil (idle_packet (idle_len (z - length old.down.waiting))))
          ∙ length-idle (idle_len (z - length old.down.waiting)) (idle_len-low (z - length old.down.waiting)) in
          absurd (omega (arith, m.2, nothing, size, idle_len-fills (z - length old.down.waiting), rested.none_waits, rests.none_waits, zone)))
    ] in
    elim (cases_lt (length old.frames) (length new.frames)) [ inl c ↦ grown c | inr c ↦ same c ]

-- ---- what is taken
-- A frame that is delivered or lost lowers the number by 1.
pub left-takes : (old new : OneWayState) (mark : Bool) → new.down ≡ old.down → new.frames ≡ old.frames → new.marks ≡ old.marks ++ mark ∷ [] → length old.marks < length old.frames →
    octets_left new + 1 ≡ octets_left old
left-takes old new mark down frames marks waits =
    omega (arith, ap (λ d. length d.waiting) down, ap length frames, ap length marks, length-append old.marks (mark ∷ []), waits)
