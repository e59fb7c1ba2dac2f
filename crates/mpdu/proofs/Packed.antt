-- Exported: the octets that a packer holds, and the length of an idle packet.
use Rattle.std.proofs.Common.{◌≡◌, ℕ, zero, suc, ◌+◌, ◌-◌, ◌*◌, ◌%◌, ◌<◌, ◌≤◌, Bool, true, false, ◌||◌, ◌==◌, nat_lt, nat_le, List, [], ◌∷◌, ◌++◌, length, take, drop, refl, sym, ap, subst, ◌∙◌, inl, inr, arith, length-append, length-drop}
use Rattle.std.proofs.lemmas.Bool.{lt-ltb, le-ltb, le-leb, lt-leb, cases_lt, cases_Bool}
use Rattle.std.proofs.lemmas.List.{take-append-le, drop-append-le, append-nil, drop-drop}
use Rattle.mpdu.specs.Stream.{stream, header_len, IsPacket, ArePackets, first_header_pointer}
use Rattle.mpdu.specs.Reading.{pointer_after}
use Rattle.mpdu.specs.Packing.{PackerState, next_start, skip, IsAt, ZoneOf, idle_packet, idle_len, flush_of}
use Rattle.space_packet.specs.Packet.{SpellsPacket, packet_octets, idle}
use Rattle.space_packet.proofs.Spelling.{written_packet_is_read, idle_is_writable}
use Rattle.mpdu.proofs.Scan.{packet_long, packet_size, header_len-same, header_len-long, drop-append-past}
use Rattle.mpdu.proofs.Zone.{pointer_next}
use Rattle.mpdu.proofs.Later.{stream-push, ArePackets-push}
use Rattle.mpdu.specs.Stream.{is_idle}
use Rattle.mpdu.specs.Packets.{busy}

-- turns enough change nothing
pub skip_same : (n m z at : ℕ) (xs : List ℕ) → z ≤ at + n → z ≤ at + m → skip n z at xs ≡ skip m z at xs
skip_same zero zero z at xs h k = refl
skip_same zero (suc m) z at xs h k = let le : z ≤ at = omega arith in rw (le-ltb at z le) refl
skip_same (suc n) zero z at xs h k = let le : z ≤ at = omega arith in rw (le-ltb at z le) refl
skip_same (suc n) (suc m) z at xs h k =
    let ih : skip n z (at + header_len (drop at xs)) xs ≡ skip m z (at + header_len (drop at xs)) xs =
    skip_same n m z (at + header_len (drop at xs)) xs (omega (arith, header_len-long (drop at xs))) (omega (arith, header_len-long (drop at xs))) in
    rw ih refl

-- one turn
pub skip_more : (z at : ℕ) (xs : List ℕ) → at < z → at + 6 ≤ length xs → skip z z at xs ≡ skip z z (at + header_len (drop at xs)) xs
skip_more zero at xs h room = absurd (omega arith)
skip_more (suc n) at xs h room =
    rw (lt-ltb at (suc n) h, le-leb (at + 6) (length xs) room)
    (skip_same n (suc n) (suc n) (at + header_len (drop at xs)) xs (omega (arith, header_len-long (drop at xs))) (omega arith))

next_start-at : (e a : ℕ) (ps : List (List ℕ)) → e ≤ a → next_start e a ps ≡ a - e
next_start-at e a [] h = refl
next_start-at e a (p ∷ ps) h = rw (le-leb e a h) refl

skip_end : (n z at : ℕ) (xs : List ℕ) → z ≤ at → skip n z at xs ≡ at
skip_end zero z at xs h = refl
skip_end (suc n) z at xs h = rw (le-ltb at z h) refl

-- from a start on
skip_start : (n z at e a : ℕ) (xs : List ℕ) (ps : List (List ℕ)) → ArePackets ps → e ≤ a → at ≡ a - e → drop at xs ≡ stream ps → z ≤ length xs → z ≤ at + n →
    skip n z at xs - z ≡ next_start (e + z) a ps
skip_start n z at e a xs [] h le is rest room few =
    let ends : length (drop at xs) ≡ 0 = ap length rest in
    let past : z ≤ at = omega (arith, length-drop at xs) in
    let sum : at - z ≡ a - (e + z) = omega arith in
    ap (λ k. k - z) (skip_end n z at xs past) ∙ sum
skip_start zero z at e a xs (p ∷ ps) h le is rest room few =
    let t : nat_le (e + z) a ≡ true = le-leb (e + z) a (omega arith) in
    rw t (omega arith)
skip_start (suc n) z at e a xs (p ∷ ps) h le is rest room few =
    let long : 7 ≤ length p = packet_long p h.0 in
    let G : Type 0 = skip (suc n) z at xs - z ≡ next_start (e + z) a (p ∷ ps) in
    let past : z ≤ at → G = λ (c : z ≤ at).
    let t : nat_le (e + z) a ≡ true = le-leb (e + z) a (omega arith) in
    let sum : at - z ≡ a - (e + z) = omega arith in
    ap (λ k. k - z) (skip_end (suc n) z at xs c) ∙ sum ∙ rw t refl in
    let more : at < z → G = λ (c : at < z).
    let size : length (drop at xs) ≡ length p + length (stream ps) = ap length rest ∙ length-append p (stream ps) in
    let t1 : nat_lt at z ≡ true = lt-ltb at z c in
    let t2 : nat_le (at + 6) (length xs) ≡ true = le-leb (at + 6) (length xs) (omega (arith, length-drop at xs)) in
    let head : take 6 (drop at xs) ≡ take 6 p = ap (λ l. take 6 l) rest ∙ take-append-le 6 p (stream ps) (omega arith) in
    let len : header_len (drop at xs) ≡ length p = header_len-same (drop at xs) p head ∙ packet_size p h.0 in
    let t3 : nat_le (e + z) a ≡ false = lt-leb (e + z) a (omega arith) in
    let past_p : drop (at + length p) xs ≡ stream ps = sym (drop-drop (length p) at xs) ∙ ap (λ l. drop (length p) l) rest ∙ drop-append-past (length p) p (stream ps) (omega arith)
    ∙ (let z0 : length p - length p ≡ 0 = omega arith in ap (λ i. drop i (stream ps)) z0) in
    rw (t1, t2, len, t3) (skip_start n z (at + length p) e (a + length p) xs ps h.1 (omega arith) (omega arith) past_p room (omega arith)) in
    elim (cases_lt at z) [ inl c ↦ more c | inr c ↦ past c ]

-- From the place of the next start in what waits, going by the headers leads to the next start
-- after the zone.
pub skip_next : (z e a : ℕ) (ps : List (List ℕ)) → ArePackets ps → a ≤ e → e + z ≤ a + length (stream ps) →
    skip z z (next_start e a ps) (drop (e - a) (stream ps)) - z ≡ next_start (e + z) a ps
skip_next z e a [] h le room =
    let past : z ≤ a - e = omega arith in
    let sum : a - e - z ≡ a - (e + z) = omega arith in
    ap (λ k. k - z) (skip_end z z (a - e) (drop (e - a) []) past) ∙ sum
skip_next z e a (p ∷ ps) h le room =
    let long : 7 ≤ length p = packet_long p h.0 in
    let s : List ℕ = p ++ stream ps in
    let all : length s ≡ length p + length (stream ps) = length-append p (stream ps) in
    let G : Type 0 = skip z z (next_start e a (p ∷ ps)) (drop (e - a) s) - z ≡ next_start (e + z) a (p ∷ ps) in
    let here : e ≤ a → G = λ (c : e ≤ a).
    let k0 : e - a ≡ 0 = omega arith in
    let k1 : a - e ≡ 0 = omega arith in
    let d0 : drop (e - a) s ≡ s = ap (λ i. drop i s) k0 in
    let d1 : drop (a - e) (drop (e - a) s) ≡ s = ap (λ i. drop i (drop (e - a) s)) k1 ∙ d0 in
    ap (λ i. skip z z i (drop (e - a) s) - z) (next_start-at e a (p ∷ ps) c)
    ∙ skip_start z z (a - e) e a (drop (e - a) s) (p ∷ ps) h c refl d1 (omega (arith, ap length d0)) (omega arith) in
    let done : a < e → a + length p ≤ e → G = λ (b : a < e) (c : a + length p ≤ e).
    let t : nat_le e a ≡ false = lt-leb e a b in
    let t2 : nat_le (e + z) a ≡ false = lt-leb (e + z) a (omega arith) in
    let k : e - a - length p ≡ e - (a + length p) = omega arith in
    let d : drop (e - a) s ≡ drop (e - (a + length p)) (stream ps) = drop-append-past (e - a) p (stream ps) (omega arith) ∙ ap (λ i. drop i (stream ps)) k in
    rw (t, t2, d) (skip_next z e (a + length p) ps h.1 c (omega arith)) in
    let inside : a < e → e < a + length p → G = λ (b : a < e) (c : e < a + length p).
    let t : nat_le e a ≡ false = lt-leb e a b in
    let t2 : nat_le (e + z) a ≡ false = lt-leb (e + z) a (omega arith) in
    let at : ℕ = a + length p - e in
    let sum : e - a + at ≡ length p = omega arith in
    let k0 : length p - length p ≡ 0 = omega arith in
    let d : drop at (drop (e - a) s) ≡ stream ps = drop-drop at (e - a) s ∙ ap (λ i. drop i s) sum ∙ drop-append-past (length p) p (stream ps) (omega arith) ∙ ap (λ i. drop i (stream ps)) k0 in
    rw (t, t2) (ap (λ i. skip z z i (drop (e - a) s) - z) (next_start-at e (a + length p) ps (omega arith))
    ∙ skip_start z z at e (a + length p) (drop (e - a) s) ps h.1 (omega arith) refl d (omega (arith, length-drop (e - a) s)) (omega arith)) in
    elim (cases_lt a e) [ inl b ↦ elim (cases_lt e (a + length p)) [ inl c ↦ inside b c | inr c ↦ done b c ] | inr c ↦ here c ]

-- the first_header_pointer of the next zone
pub pointer_is : (z e a : ℕ) (ps : List (List ℕ)) → e + z ≤ a + length (stream ps) → first_header_pointer z e a ps ≡ pointer_after z (next_start e a ps)
pointer_is z e a [] room = pointer_next z e a [] (omega arith) room
pointer_is z e a (p ∷ ps) room =
    let t : a < e → first_header_pointer z e a (p ∷ ps) ≡ pointer_after z (next_start e a (p ∷ ps)) = λ (b : a < e).
    let f : nat_le e a ≡ false = lt-leb e a b in
    rw f (pointer_is z e (a + length p) ps (omega (arith, length-append p (stream ps)))) in
    elim (cases_lt a e) [ inl b ↦ t b | inr c ↦ pointer_next z e a (p ∷ ps) c room ∙ ap (λ n. pointer_after z n) (sym (next_start-at e a (p ∷ ps) c)) ]

-- one more packet after them changes no start before it
pub next_start-push : (e a : ℕ) (ps : List (List ℕ)) (q : List ℕ) → e ≤ a + length (stream ps) → next_start e a (ps ++ q ∷ []) ≡ next_start e a ps
next_start-push e a [] q h = let le : e ≤ a = omega arith in rw (le-leb e a le) refl
next_start-push e a (p ∷ ps) q h =
    rw (next_start-push e (a + length p) ps q (omega (arith, length-append p (stream ps)))) refl

-- The packer after one more packet, and after a zone taken.
pub pushed : (p : PackerState) (ps : List (List ℕ)) (taken : ℕ) (q : List ℕ) → IsPacket q → IsAt p ps taken → (f : Bool) →
    IsAt (record p { waiting = p.waiting ++ q; flushed = f }) (ps ++ q ∷ []) taken
pushed p ps taken q hq h f =
    let e : ℕ = taken * p.size in
    let below : e ≤ length (stream ps) = h.below in
    let all : length (stream (ps ++ q ∷ [])) ≡ length (stream ps) + length q = ap length (stream-push ps q) ∙ length-append (stream ps) q in
    record {
      packets_whole = ArePackets-push ps q h.packets_whole hq;
      below = omega arith;
      rest = ap (λ l. l ++ q) h.rest ∙ sym (drop-append-le e (stream ps) q below) ∙ ap (λ l. drop e l) (sym (stream-push ps q));
      start = h.start ∙ sym (next_start-push e 0 ps q (omega arith));
    }

pub zone_taken : (p : PackerState) (ps : List (List ℕ)) (taken : ℕ) → p.size ≤ length p.waiting → IsAt p ps taken →
    IsAt (record p { waiting = drop p.size p.waiting; first = skip p.size p.size p.first p.waiting - p.size }) ps (taken + 1)
zone_taken p ps taken whole h =
    let e : ℕ = taken * p.size in
    let z : ℕ = p.size in
    let one : (taken + 1) * p.size ≡ taken * p.size + p.size = omega arith in
    let room : e + z ≤ length (stream ps) = omega (arith, ap length h.rest, length-drop e (stream ps), h.below) in
    let e0 : e - 0 ≡ e = omega arith in
    let next : skip z z (next_start e 0 ps) (drop (e - 0) (stream ps)) - z ≡ next_start (e + z) 0 ps = skip_next z e 0 ps h.packets_whole (omega arith) (omega arith) in
    record {
      packets_whole = h.packets_whole;
      below = omega arith;
      rest = ap (λ l. drop z l) h.rest ∙ drop-drop z e (stream ps) ∙ ap (λ i. drop i (stream ps)) (sym one);
      start = ap (λ i. skip z z i p.waiting - z) h.start ∙ ap (λ l. skip z z (next_start e 0 ps) l - z) (h.rest ∙ ap (λ i. drop i (stream ps)) (sym e0)) ∙ next ∙ ap (λ i. next_start i 0 ps) (sym one);
    }

pub zone_is : (p : PackerState) (ps : List (List ℕ)) (taken at : ℕ) (octets : List ℕ) → p.size ≤ length p.waiting → IsAt p ps taken →
    at ≡ pointer_after p.size p.first → octets ≡ take p.size p.waiting → ZoneOf ps taken p.size at octets
zone_is p ps taken at octets whole h ha ho =
    let e : ℕ = taken * p.size in
    let room : e + p.size ≤ length (stream ps) = omega (arith, ap length h.rest, length-drop e (stream ps), h.below) in
    record {
      inside = room;
      pointed = ha ∙ ap (λ i. pointer_after p.size i) h.start ∙ sym (pointer_is p.size e 0 ps (omega arith));
      cut_out = ho ∙ ap (λ l. take p.size l) h.rest;
    }

pub idle_is : (n : ℕ) → 7 ≤ n → n ≤ 2046 → IsPacket (idle_packet n)
unfolding idle_packet
idle_is n lo hi = record { parts = idle n; spelled = written_packet_is_read (idle n) (idle_is_writable n lo (omega arith)) }

pub idle_len-low : (free : ℕ) → 7 ≤ idle_len free
idle_len-low free = elim (cases_lt free 7) [ inl c ↦ rw (lt-leb 7 free c) (omega arith) | inr c ↦ rw (le-leb 7 free c) c ]

pub idle_len-high : (free : ℕ) → free ≤ 2040 → idle_len free ≤ 2046
idle_len-high free h = elim (cases_lt free 7) [ inl c ↦ rw (lt-leb 7 free c) (omega arith) | inr c ↦ rw (le-leb 7 free c) (omega arith) ]

-- a packer that was flushed
pub flushed_at : (p q : PackerState) (ps : List (List ℕ)) (taken : ℕ) → p.size ≤ 2040 → (flush_of p ≡ [] → q ≡ p) →
    ((n : ℕ) → flush_of p ≡ idle_packet n ∷ [] → q ≡ record p { waiting = p.waiting ++ idle_packet n; flushed = true }) →
    IsAt p ps taken → IsAt q (ps ++ flush_of p) taken
flushed_at p q ps taken hi same more h =
    let t : Bool = p.flushed || (length p.waiting % p.size == 0) in
    let free : ℕ = p.size - length p.waiting % p.size in
    let none : t ≡ true → IsAt q (ps ++ flush_of p) taken = λ (e : t ≡ true).
    let f : flush_of p ≡ [] = rw e refl in
    let l : ps ≡ ps ++ flush_of p = sym (append-nil ps) ∙ ap (λ x. ps ++ x) (sym f) in
    subst (λ (x : List (List ℕ)). IsAt q x taken) l (subst (λ (x : PackerState). IsAt x ps taken) (sym (same f)) h) in
    let one : t ≡ false → IsAt q (ps ++ flush_of p) taken = λ (e : t ≡ false).
    let f : flush_of p ≡ idle_packet (idle_len free) ∷ [] = rw e refl in
    let l : ps ++ idle_packet (idle_len free) ∷ [] ≡ ps ++ flush_of p = ap (λ x. ps ++ x) (sym f) in
    let whole : IsPacket (idle_packet (idle_len free)) = idle_is (idle_len free) (idle_len-low free) (idle_len-high free (omega arith)) in
    subst (λ (x : List (List ℕ)). IsAt q x taken) l (subst (λ (x : PackerState). IsAt x (ps ++ idle_packet (idle_len free) ∷ []) taken) (sym (more (idle_len free) f))
    (pushed p ps taken (idle_packet (idle_len free)) whole h true)) in
    elim (cases_Bool t) [ inl e ↦ none e | inr e ↦ one e ]

-- What was flushed isn't flushed again.
pub flushed_once : (p q : PackerState) → (flush_of p ≡ [] → q ≡ p) → ((n : ℕ) → flush_of p ≡ idle_packet n ∷ [] → q ≡ record p { waiting = p.waiting ++ idle_packet n; flushed = true }) →
    flush_of q ≡ []
flushed_once p q same more =
    let t : Bool = p.flushed || (length p.waiting % p.size == 0) in
    let none : t ≡ true → flush_of q ≡ [] = λ (e : t ≡ true).
    let f : flush_of p ≡ [] = rw e refl in
    ap flush_of (same f) ∙ f in
    let one : t ≡ false → flush_of q ≡ [] = λ (e : t ≡ false).
    let f : flush_of p ≡ idle_packet (idle_len (p.size - length p.waiting % p.size)) ∷ [] = rw e refl in
    ap flush_of (more (idle_len (p.size - length p.waiting % p.size)) f) in
    elim (cases_Bool t) [ inl e ↦ none e | inr e ↦ one e ]

idle_is_idle : (n : ℕ) → 7 ≤ n → n ≤ 65542 → is_idle (idle_packet n) ≡ true
unfolding idle_packet is_idle
idle_is_idle n lo hi =
    let s : SpellsPacket (idle n) (packet_octets (idle n)) = written_packet_is_read (idle n) (idle_is_writable n lo hi) in
    rw (s.apid) refl

-- A flush adds one packet at most, and an idle one.
pub flush_is_idle : (p : PackerState) → p.size ≤ 2040 → (length (flush_of p) ≤ 1) × (busy (flush_of p) ≡ [])
flush_is_idle p hi =
    let t : Bool = p.flushed || (length p.waiting % p.size == 0) in
    let free : ℕ = p.size - length p.waiting % p.size in
    let G : Type 0 = (length (flush_of p) ≤ 1) × (busy (flush_of p) ≡ []) in
    let none : t ≡ true → G = λ (e : t ≡ true). rw e (omega arith, refl) in
    let one : t ≡ false → G = λ (e : t ≡ false).
    let idle_one : is_idle (idle_packet (idle_len free)) ≡ true = idle_is_idle (idle_len free) (idle_len-low free) (omega (arith, idle_len-high free (omega arith))) in
    rw (e, idle_one) (omega arith, refl) in
    elim (cases_Bool t) [ inl e ↦ none e | inr e ↦ one e ]
