-- An end that sends between events: no whole zone waits, and after a flush nothing but octets of
-- its idle packet.
use Rattle.std.proofs.Common.{◌≡◌, ℕ, zero, suc, ◌+◌, ◌-◌, ◌*◌, ◌%◌, ◌<◌, ◌≤◌, Bool, true, false, ◌||◌, ◌==◌, nat_le, List, [], ◌∷◌, ◌++◌, ◌⊎◌, length, refl, sym, ap, ◌∙◌, inl, inr, arith, length-append, length-drop}
use Rattle.std.proofs.lemmas.Bool.{cases_Bool, cases_lt, le-leb, lt-leb, eq-eqb}
use Rattle.std.proofs.lemmas.List.{append-nil, append_assoc, length-replicate}
use Rattle.std.proofs.Math.Nat.{mod-eq_of_lt, mul-le-mul_right}
use Rattle.cfd_bits.proofs.Fields.{length-octets}
use Rattle.space_packet.specs.Packet.{Parts, idle, header_octets}
use Rattle.mpdu.specs.Stream.{stream}
use Rattle.mpdu.specs.Packets.{busy}
use Rattle.mpdu.specs.Packing.{flush_of, idle_packet, idle_len}
use Rattle.mpdu.proofs.Packed.{idle_len-low, flush_is_idle}
use Rattle.link_stack.specs.Downward.{packing}
use Rattle.link_stack.specs.Upward.{LinkReceiverState}
use Rattle.link_sim.specs.OneWay.{OneWayState, packets_sent, behind, IsOneWay, IsRested, SendsMore}

-- ---- numbers
-- So many zones more were filled: `w` octets waited, `q` came, `n` wait now.
pub zones-more : (z f g w n q : ℕ) → g * z + n ≡ f * z + w + q → n < z → (k : ℕ) × (g ≡ f + k) × (k * z + n ≡ w + q)
zones-more z f g w n q e less =
    let never : g < f → ⊥ = λ (c : g < f).
    let one : (g + 1) * z ≡ g * z + z = omega arith in
    let le : (g + 1) * z ≤ f * z = mul-le-mul_right z (let h : g + 1 ≤ f = omega arith in h) in
    omega (arith, one, le, e, less) in
    let more : f ≤ g → (k : ℕ) × (g ≡ f + k) × (k * z + n ≡ w + q) = λ (c : f ≤ g).
    let k : ℕ = g - f in
    let sum : f + k ≡ g = omega arith in
    let split : (f + k) * z ≡ f * z + k * z = omega arith in
    (k, sym sum, omega (arith, e, split, ap (λ x. x * z) sum)) in
    elim (cases_lt g f) [ inl c ↦ absurd (never c) | inr c ↦ more c ]

-- a zone has an octet at least
pub zones-most : (z k : ℕ) → 1 ≤ z → k ≤ k * z
zones-most z zero h = omega arith
zones-most z (suc k) h =
    let one : suc k * z ≡ k * z + z = omega arith in
    omega (arith, zones-most z k h, one, h)

pub whole_zone : (z k : ℕ) → 1 ≤ k → z ≤ k * z
whole_zone z zero h = absurd (omega arith)
whole_zone z (suc k) h = let one : suc k * z ≡ k * z + z = omega arith in omega (arith, one)

or_true : (a b : Bool) → b ≡ true → (a || b) ≡ true
or_true true b e = refl
or_true false b e = e

-- ---- what is sent
pub same-link : (old new : OneWayState) → IsOneWay old → IsOneWay new → new.up ≡ old.up → new.down.link ≡ old.down.link
same-link old new is after up = sym after.same_link ∙ ap (λ (u : LinkReceiverState). u.link) up ∙ is.same_link

-- of all that was sent, what isn't in frames waits
pub sent-octets : (w : OneWayState) → IsOneWay w → length (stream (packets_sent w)) ≡ length w.frames * w.down.link.zone + length w.down.waiting
sent-octets w is =
    let at = is.sent.made.packed in
    omega (arith, ap length at.rest, length-drop (length w.frames * w.down.link.zone) (stream (packets_sent w)), at.below)

stream-append : (ps qs : List (List ℕ)) → stream (ps ++ qs) ≡ stream ps ++ stream qs
stream-append [] qs = refl
stream-append (p ∷ ps) qs = ap (λ l. p ++ l) (stream-append ps qs) ∙ sym (append_assoc p (stream ps) (stream qs))

pub sent-now : (old new : OneWayState) (qs texts : List (List ℕ)) → IsOneWay old → SendsMore old new qs texts → new.up ≡ old.up →
    length new.frames * old.down.link.zone + length new.down.waiting ≡ length old.frames * old.down.link.zone + length old.down.waiting + length (stream qs)
sent-now old new qs texts is more up =
    let zone : new.down.link.zone ≡ old.down.link.zone = ap (λ k. k.zone) (same-link old new is more.way up) in
    let all : length (stream (packets_sent new)) ≡ length (stream (packets_sent old)) + length (stream qs) =
    ap (λ l. length (stream l)) more.packets ∙ ap length (stream-append (packets_sent old) qs) ∙ length-append (stream (packets_sent old)) (stream qs) in
    omega (arith, all, sent-octets old is, sent-octets new more.way, ap (λ z. length new.frames * z) zone)

-- ---- a flush
length-header : (p : Parts) (n : ℕ) → length (header_octets p n) ≡ 6
length-header p n = omega (arith, length-append {A = ℕ}, length-octets)

pub length-idle : (n : ℕ) → 7 ≤ n → length (idle_packet n) ≡ n
unfolding idle_packet
length-idle n h =
    let body : List ℕ = (idle n).body in
    let all : length (header_octets (idle n) (length body) ++ body) ≡ length (header_octets (idle n) (length body)) + length body = length-append (header_octets (idle n) (length body)) body in
    let rest : length body ≡ n - 6 = length-replicate (n - 6) 0 in
    omega (arith, all, rest, length-header (idle n) (length body))

-- the idle packet that a flush adds
pub flush-is : (w : OneWayState) → IsRested w → (flush_of (packing w.down) ≡ [])
    ⊎ ((1 ≤ length w.down.waiting) × (flush_of (packing w.down) ≡ idle_packet (idle_len (w.down.link.zone - length w.down.waiting)) ∷ []))
flush-is w rests =
    let z : ℕ = w.down.link.zone in
    let n : ℕ = length w.down.waiting in
    let rest : n % z ≡ n = mod-eq_of_lt rests.none_waits in
    let G : Type 0 = (flush_of (packing w.down) ≡ []) ⊎ ((1 ≤ n) × (flush_of (packing w.down) ≡ idle_packet (idle_len (z - n)) ∷ [])) in
    let none : (w.down.flushed || (n % z == 0)) ≡ true → G = λ (e : (w.down.flushed || (n % z == 0)) ≡ true). inl (rw e refl) in
    let some : (w.down.flushed || (n % z == 0)) ≡ false → G = λ (e : (w.down.flushed || (n % z == 0)) ≡ false).
    let few : n ≡ 0 → ⊥ = λ (c : n ≡ 0). let bad : (w.down.flushed || (n % z == 0)) ≡ true = or_true w.down.flushed (n % z == 0) (eq-eqb (n % z) 0 (rest ∙ c)) in let worse : true ≡ false = sym bad
    ∙ e in cc in
    let least : 1 ≤ n = elim (cases_lt 0 n) [ inl c ↦ c | inr c ↦ absurd (few (omega arith)) ] in
    inr (least, rw e (ap (λ k. idle_packet (idle_len (z - k)) ∷ []) rest)) in
    elim (cases_Bool (w.down.flushed || (n % z == 0))) [ inl e ↦ none e | inr e ↦ some e ]

-- ---- what stays
pub idle_len-fills : (free : ℕ) → free ≤ idle_len free
idle_len-fills free = elim (cases_lt free 7) [ inl c ↦ rw (lt-leb 7 free c) (omega arith) | inr c ↦ rw (le-leb 7 free c) (omega arith) ]

-- of packets that end before a limit, and idle ones after them, none that isn't idle is after it
idle-behind : (limit from : ℕ) (ps : List (List ℕ)) (q : List ℕ) → busy (q ∷ []) ≡ [] → from + length (stream ps) ≤ limit → busy (behind limit from (ps ++ q ∷ [])) ≡ []
idle-behind limit from [] q h le = elim (cases_lt limit (from + length q)) [ inl c ↦ rw (lt-leb (from + length q) limit c) h | inr c ↦ rw (le-leb (from + length q) limit c) refl ]
idle-behind limit from (p ∷ ps) q h le =
    let t : nat_le (from + length p) limit ≡ true = le-leb (from + length p) limit (omega (arith, length-append p (stream ps))) in
    rw t (idle-behind limit (from + length p) ps q h (omega (arith, length-append p (stream ps))))

-- A PDU that is sent ends what a flush left.
pub rests-unflushed : (w : OneWayState) → length w.down.waiting < w.down.link.zone → w.down.flushed ≡ false → IsRested w
rests-unflushed w waits e = record { none_waits = waits; filled = λ f. absurd (let bad : true ≡ false = sym f ∙ e in cc) }

-- After a flush the end rests: what was sent before fills zones.
pub rests-flushed : (old new : OneWayState) → IsOneWay old → IsRested old → SendsMore old new (flush_of (packing old.down)) [] → new.up ≡ old.up → length new.down.waiting < old.down.link.zone →
    (flush_of (packing old.down) ≡ [] → new.down.flushed ≡ old.down.flushed) → IsRested new
rests-flushed old new is rested more up waits same =
    let z : ℕ = old.down.link.zone in
    let w : ℕ = length old.down.waiting in
    let n : ℕ = length new.down.waiting in
    let ps : List (List ℕ) = packets_sent old in
    let qs : List (List ℕ) = flush_of (packing old.down) in
    let zone : new.down.link.zone ≡ z = ap (λ k. k.zone) (same-link old new is more.way up) in
    let m : (k : ℕ) × (length new.frames ≡ length old.frames + k) × (k * z + n ≡ w + length (stream qs)) =
    zones-more z (length old.frames) (length new.frames) w n (length (stream qs)) (sent-now old new qs [] is more up) waits in
    let k : ℕ = m.0 in
    let G : Type 0 = new.down.flushed ≡ true → busy (behind (length new.frames * new.down.link.zone) 0 (packets_sent new)) ≡ [] in
    let none : qs ≡ [] → G = λ (e : qs ≡ []) (f : new.down.flushed ≡ true).
    let nothing : length (stream qs) ≡ 0 = ap (λ l. length (stream l)) e in
    let some : 1 ≤ k → ⊥ = λ (c : 1 ≤ k). omega (arith, m.2, nothing, whole_zone z k c, rested.none_waits) in
    let zero_more : k ≡ 0 = elim (cases_lt 0 k) [ inl c ↦ absurd (some c) | inr c ↦ omega arith ] in
    let frames : length new.frames ≡ length old.frames = omega (arith, m.1, zero_more) in
    let packets : packets_sent new ≡ ps = more.packets ∙ ap (λ l. ps ++ l) e ∙ append-nil ps in
    ap (λ x. busy (behind (x * new.down.link.zone) 0 (packets_sent new))) frames
    ∙ ap (λ x. busy (behind (length old.frames * x) 0 (packets_sent new))) zone
    ∙ ap (λ l. busy (behind (length old.frames * z) 0 l)) packets ∙ rested.filled (sym (same e) ∙ f) in
    let some : (1 ≤ w) × (qs ≡ idle_packet (idle_len (z - w)) ∷ []) → G = λ (h : (1 ≤ w) × (qs ≡ idle_packet (idle_len (z - w)) ∷ [])) (f : new.down.flushed ≡ true).
    let q : List ℕ = idle_packet (idle_len (z - w)) in
    let size : length (stream qs) ≡ idle_len (z - w) = ap (λ l. length (stream l)) h.1 ∙ ap length (append-nil q) ∙ length-idle (idle_len (z - w)) (idle_len-low (z - w)) in
    let never : k ≡ 0 → ⊥ = λ (c : k ≡ 0). let nothing : k * z ≡ 0 * z = ap (λ x. x * z) c in omega (arith, nothing, m.2, size, idle_len-fills (z - w), waits) in
    let least : 1 ≤ k = elim (cases_lt 0 k) [ inl c ↦ c | inr c ↦ absurd (never (omega arith)) ] in
    let split : (length old.frames + k) * z ≡ length old.frames * z + k * z = omega arith in
    let limit : ℕ = length new.frames * new.down.link.zone in
    let to : limit ≡ length old.frames * z + k * z = ap (λ x. length new.frames * x) zone ∙ ap (λ x. x * z) m.1 ∙ split in
    let idle_one : busy (q ∷ []) ≡ [] = ap busy (sym h.1) ∙ (flush_is_idle (packing old.down) is.sent.valid.most_zone).1 in
    ap (λ l. busy (behind limit 0 l)) (more.packets ∙ ap (λ l. ps ++ l) h.1)
    ∙ idle-behind limit 0 ps q idle_one (omega (arith, to, sent-octets old is, whole_zone z k least, rested.none_waits)) in
    record { none_waits = omega (arith, waits, zone); filled = elim (flush-is old rested) [ inl e ↦ none e | inr h ↦ some h ] }
