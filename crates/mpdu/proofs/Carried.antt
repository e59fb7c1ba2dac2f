-- Exported: packets cut into zones and carried past lost ones.
use Rattle.std.proofs.Common.{◌≡◌, ℕ, zero, suc, ◌+◌, ◌-◌, ◌*◌, ◌%◌, ◌==◌, ◌||◌, ◌<◌, ◌≤◌, Bool, true, false, not, min, List, [], ◌∷◌, ◌++◌, length, get_or, take, refl, sym, ap, subst, ◌∙◌, inl, inr, arith, length-drop, Vec, Global, Result, Ok, Err, OnOk, IsErr}
use Rattle.std.proofs.lemmas.List.{map_more, append-nil}
use Rattle.std.proofs.lemmas.Nat.{mod-mul-add}
use Rattle.std.proofs.Math.Nat.{mod-eq_of_lt}
use Rattle.std.proofs.lemmas.Bool.{cases_Bool}
use Rattle.mpdu.specs.Stream.{stream, IsPacket, ArePackets, survivors, begun, first_header_pointer, zone}
use Rattle.mpdu.specs.Packing.{PackerState, IsAt, ZoneOf, flush_of, idle_packet, idle_len}
use Rattle.mpdu.specs.Feeding.{IsNext, IsTaken, octets_of_each}
use Rattle.aos_frame.specs.Counts.{frame_counts, with_cycle}
use Rattle.aos_frame.specs.declared.count.SeenCount.{SeenCount}
use Rattle.mpdu.specs.Reading.{held_at}
use Rattle.mpdu.proofs.Counted.{counts_struck, counts_read, never}
use Rattle.std.proofs.Common.{Option, Some}
use Rattle.mpdu.specs.Carrying.{marks_of, AreSurvivors, fill_of}
use Rattle.mpdu.specs.Draining.{IsCarried}
use Rattle.mpdu.proofs.Scan.{packet_size, header_len-short}
use Rattle.mpdu.proofs.Struck.{begun-struck, survivors-struck}
use Rattle.mpdu.proofs.Later.{begun-push, survivors-push}
use Rattle.mpdu.proofs.Packed.{idle_is, idle_len-low, idle_len-high}

pub length-marks_of : (n : ℕ) (struck : List Bool) → length (marks_of n struck) ≡ n
length-marks_of zero struck = refl
length-marks_of (suc n) [] = ap (λ k. suc k) (length-marks_of n [])
length-marks_of (suc n) (b ∷ struck) = ap (λ k. suc k) (length-marks_of n struck)

pub marks_of_more : (n : ℕ) (struck : List Bool) → marks_of (suc n) struck ≡ marks_of n struck ++ not (get_or struck n false) ∷ []
marks_of_more zero [] = refl
marks_of_more zero (b ∷ struck) = refl
marks_of_more (suc n) [] = ap (λ l. true ∷ l) (marks_of_more n [])
marks_of_more (suc n) (b ∷ struck) = ap (λ l. not b ∷ l) (marks_of_more n struck)

-- a packet pushed
pub carried_push : (ps : List (List ℕ)) (struck : List Bool) (size : ℕ) (p p' : PackerState) (held : List ℕ) (next : ℕ) (last : Option SeenCount) (sent : ℕ) (out : List (List ℕ)) (q : List ℕ) →
    IsPacket q →
    p'.size ≡ p.size → (h : IsCarried ps struck size p held next last sent out) → IsAt p' (ps ++ q ∷ []) h.taken →
    IsCarried (ps ++ q ∷ []) struck size p' held next last sent out
carried_push ps struck size p p' held next last sent out q hq es h at =
    let n : ℕ = h.taken in
    let m : List Bool = marks_of n struck in
    let room : length m * size ≤ 0 + length (stream ps) = omega (arith, ap (λ k. k * size) (length-marks_of n struck), ap (λ k. n * k) h.sized, h.packed.below) in
    record {
      taken = n;
      packed = at;
      sized = es ∙ h.sized;
      next_mark = h.next_mark;
      missed = h.missed;
      counts = h.counts;
      as_left = h.as_left ∙ sym (begun-push size m 0 ps q hq room);
      given = h.given ∙ sym (survivors-push size m 0 ps q hq room);
    }

-- the next zone, as feed takes it
pub next_of : (ps : List (List ℕ)) (struck : List Bool) (z : ℕ) (p : PackerState) (held : List ℕ) (next : ℕ) (last : Option SeenCount) (sent : ℕ) (out : List (List ℕ)) (at : ℕ) (octets : List ℕ)
    (follows : Bool) → length octets ≡ z →
    (h : IsCarried ps struck z p held next last sent out) → ZoneOf ps h.taken p.size at octets → held_at follows held ≡ held_at (h.missed == 0) held →
    IsNext ps (marks_of h.taken struck) (held_at follows held) at octets
next_of ps struck z p held next last sent out at octets follows e h zo told =
    let n : ℕ = h.taken in
    let m : List Bool = marks_of n struck in
    let se : p.size ≡ length octets = h.sized ∙ sym e in
    let start : n * p.size ≡ length m * length octets = ap (λ k. n * k) se ∙ ap (λ k. k * length octets) (sym (length-marks_of n struck)) in
    record {
      packets_whole = h.packed.packets_whole;
      as_left = told ∙ h.as_left ∙ ap (λ k. begun k m 0 ps) (sym e);
      inside = omega (arith, zo.inside);
      pointed = zo.pointed ∙ ap (λ k. first_header_pointer k (n * p.size) 0 ps) se ∙ ap (λ k. first_header_pointer (length octets) k 0 ps) start;
      cut_out = zo.cut_out ∙ ap (λ k. zone k (n * p.size) (stream ps)) se ∙ ap (λ k. zone (length octets) k (stream ps)) start;
    }

marks_more : (n : ℕ) (struck : List Bool) (b : Bool) → get_or struck n false ≡ b → marks_of (n + 1) struck ≡ marks_of n struck ++ not b ∷ []
marks_more n struck b e =
    let one : n + 1 ≡ suc n = omega arith in
    ap (λ k. marks_of k struck) one ∙ marks_of_more n struck ∙ ap (λ x. marks_of n struck ++ not x ∷ []) e

-- a zone read
pub carried_read : (ps : List (List ℕ)) (struck : List Bool) (z : ℕ) (p p' : PackerState) (held held' : List ℕ) (next next' : ℕ) (last : Option SeenCount) (sent sent' : ℕ) (out new : List (List ℕ))
    (octets : List ℕ) → length octets ≡ z →
    (h : IsCarried ps struck z p held next last sent out) → next' ≡ (next + 1) % frame_counts → p'.size ≡ p.size → IsAt p' ps (h.taken + 1) → sent' ≡ min (h.taken + 1) (length struck) →
    get_or struck h.taken false ≡ false → IsTaken ps (marks_of h.taken struck) (length octets) held' out new →
    IsCarried ps struck z p' held' next' (Some (with_cycle next)) sent' new
carried_read ps struck z p p' held held' next next' last sent sent' out new octets e h en es at nm un t =
    let n : ℕ = h.taken in
    let m : List Bool = marks_of n struck in
    let more : marks_of (n + 1) struck ≡ m ++ true ∷ [] = marks_more n struck false un in
    record {
      taken = n + 1;
      packed = at;
      sized = es ∙ h.sized;
      next_mark = nm;
      missed = 0;
      counts = counts_read struck n h.missed next next' last held held' h.counts en;
      as_left = t.as_left ∙ ap (λ k. begun k (m ++ true ∷ []) 0 ps) e ∙ ap (λ l. begun z l 0 ps) (sym more);
      given = t.appended ∙ ap (λ l. l ++ t.added) (h.given ∙ ap (λ k. survivors k m 0 ps) (sym e)) ∙ sym t.completed ∙ ap (λ k. survivors k (m ++ true ∷ []) 0 ps) e
          ∙ ap (λ l. survivors z l 0 ps) (sym more);
    }

-- a zone struck
pub carried_struck : (ps : List (List ℕ)) (struck : List Bool) (z : ℕ) (p p' : PackerState) (held : List ℕ) (next next' : ℕ) (last : Option SeenCount) (sent sent' : ℕ) (out : List (List ℕ)) → 0 < z →
    (h : IsCarried ps struck z p held next last sent out) → next' ≡ (next + 1) % frame_counts → p'.size ≡ p.size → IsAt p' ps (h.taken + 1) → sent' ≡ min (h.taken + 1) (length struck) →
    get_or struck h.taken false ≡ true → IsCarried ps struck z p' held next' last sent' out
carried_struck ps struck z p p' held next next' last sent sent' out pos h en es at nm lost =
    let n : ℕ = h.taken in
    let m : List Bool = marks_of n struck in
    let more : marks_of (n + 1) struck ≡ m ++ false ∷ [] = marks_more n struck true lost in
    record {
      taken = n + 1;
      packed = at;
      sized = es ∙ h.sized;
      next_mark = nm;
      missed = suc h.missed;
      counts = counts_struck struck n h.missed next next' last held h.counts lost en;
      as_left = ap (λ b. held_at b held) (never h.missed) ∙ sym (begun-struck z m 0 ps pos) ∙ ap (λ l. begun z l 0 ps) (sym more);
      given = h.given ∙ sym (survivors-struck z m 0 ps pos h.packed.packets_whole) ∙ ap (λ l. survivors z l 0 ps) (sym more);
    }

-- the end: no whole zone is left
pub carried_all : (ps : List (List ℕ)) (struck : List Bool) (size : ℕ) (p : PackerState) (held : List ℕ) (next : ℕ) (last : Option SeenCount) (sent : ℕ) (out : List (List ℕ)) →
    IsCarried ps struck size p held next last sent out → length p.waiting < p.size → AreSurvivors ps struck size out
carried_all ps struck size p held next last sent out h less =
    let same : h.taken * p.size ≡ h.taken * size = ap (λ k. h.taken * k) h.sized in
    record {
      frames = h.taken;
      inside = omega (arith, h.packed.below);
      all = omega (arith, h.packed.below, ap length h.packed.rest, length-drop (h.taken * p.size) (stream ps), h.sized);
      survive = h.given;
    }

pub ArePackets-at : (vs : List (Vec ℕ Global)) (i : ℕ) (v : Vec ℕ Global) → ArePackets (octets_of_each vs) → i < length vs → v ≡ get_or vs i v → IsPacket v.items
ArePackets-at [] i v h lt is = absurd (omega arith)
ArePackets-at (w ∷ vs) zero v h lt is = subst (λ (x : Vec ℕ Global). IsPacket x.items) (sym is) h.0
ArePackets-at (w ∷ vs) (suc i) v h lt is = ArePackets-at vs i v h.1 (omega arith) is

pub packet_short : (p : List ℕ) → IsPacket p → length p ≤ 65542
packet_short p h = omega (arith, packet_size p h, header_len-short p)

pub ok_unless : {A E : Type 0} (P : Type 0) (r : Result A E) → (IsErr r → ⊥) → OnOk r P → P
ok_unless P (Ok x) f p = p
ok_unless P (Err e) f p = absurd (f refl)

pub packets_more : (vs : List (Vec ℕ Global)) (i : ℕ) (v : Vec ℕ Global) → i < length vs → v ≡ get_or vs i v → octets_of_each (take (i + 1) vs) ≡ octets_of_each (take i vs) ++ v.items ∷ []
packets_more vs i v lt is = map_more (λ (x : Vec ℕ Global). x.items) vs i v lt ∙ ap (λ x. octets_of_each (take i vs) ++ x.items ∷ []) (sym is)

-- what a flush adds, as the packets show it
pub flush_is : (ps : List (List ℕ)) (p : PackerState) (taken size : ℕ) → p.size ≡ size → p.flushed ≡ false → IsAt p ps taken → length p.waiting < p.size → flush_of p ≡ fill_of size ps
flush_is ps p taken size es ef h less =
    let e : ℕ = taken * p.size in
    let w : ℕ = length p.waiting in
    let len : length (stream ps) ≡ taken * p.size + w = omega (arith, h.below, ap length h.rest, length-drop e (stream ps)) in
    let m1 : length (stream ps) % size ≡ w = ap (λ k. length (stream ps) % k) (sym es) ∙ ap (λ k. k % p.size) len ∙ mod-mul-add taken p.size w less in
    let m2 : length p.waiting % p.size ≡ w = mod-eq_of_lt less in
    rw (ef, m2, m1, es) refl

-- a flush
pub carried_flush : (ps : List (List ℕ)) (struck : List Bool) (size : ℕ) (p p' : PackerState) (held : List ℕ) (next : ℕ) (last : Option SeenCount) (sent : ℕ) (out : List (List ℕ)) →
    size ≤ 2040 → p'.size ≡ p.size → (h : IsCarried ps struck size p held next last sent out) → IsAt p' (ps ++ flush_of p) h.taken →
    IsCarried (ps ++ flush_of p) struck size p' held next last sent out
carried_flush ps struck size p p' held next last sent out hi es h at =
    let t : Bool = p.flushed || (length p.waiting % p.size == 0) in
    let n : ℕ = idle_len (p.size - length p.waiting % p.size) in
    let G : List (List ℕ) → Type 0 = λ (l : List (List ℕ)). IsCarried l struck size p' held next last sent out in
    let none : t ≡ true → G (ps ++ flush_of p) = λ (e : t ≡ true).
    let f : flush_of p ≡ [] = rw e refl in
    let l : ps ++ flush_of p ≡ ps = ap (λ x. ps ++ x) f ∙ append-nil ps in
    subst G (sym l) (record {
      taken = h.taken;
      packed = subst (λ (x : List (List ℕ)). IsAt p' x h.taken) l at;
      sized = es ∙ h.sized;
      next_mark = h.next_mark;
      missed = h.missed;
      counts = h.counts;
      as_left = h.as_left;
      given = h.given;
    }) in
    let one : t ≡ false → G (ps ++ flush_of p) = λ (e : t ≡ false).
    let f : flush_of p ≡ idle_packet n ∷ [] = rw e refl in
    let l : ps ++ flush_of p ≡ ps ++ idle_packet n ∷ [] = ap (λ x. ps ++ x) f in
    let room : p.size - length p.waiting % p.size ≤ 2040 = omega (arith, h.sized) in
    let whole : IsPacket (idle_packet n) = idle_is n (idle_len-low (p.size - length p.waiting % p.size)) (idle_len-high (p.size - length p.waiting % p.size) room) in
    subst G (sym l) (carried_push ps struck size p p' held next last sent out (idle_packet n) whole es h (subst (λ (x : List (List ℕ)). IsAt p' x h.taken) l at)) in
    elim (cases_Bool t) [ inl e ↦ none e | inr e ↦ one e ]
