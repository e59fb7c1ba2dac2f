-- Exported: one zone of a stream, and the packets in it.
use Rattle.std.proofs.Common.{◌≡◌, ℕ, ◌+◌, ◌-◌, ◌*◌, ◌<◌, ◌≤◌, Bool, true, false, not, ◌&&◌, nat_lt, nat_le, List, [], ◌∷◌, ◌++◌, length, take, drop, refl, sym, ap, ◌∙◌, inl, inr, arith, length-append, length-take}
use Rattle.std.proofs.lemmas.Bool.{lt-ltb, le-ltb, le-leb, lt-leb, eq-eqb, cases_lt, cases_Bool}
use Rattle.std.proofs.lemmas.List.{take-append-le, length-take-le, take-take, drop_all, drop-take, take-append-drop, drop-drop}
use Rattle.mpdu.specs.Stream.{stream, keep, header_len, header_ok, is_idle, IsPacket, ArePackets, arrived, survivors, begun, first_header_pointer, zone}
use Rattle.mpdu.specs.Reading.{Read, scan, step, goes_on, pointer_after}
use Rattle.mpdu.proofs.Spans.{arrived-before, arrived-past, arrived-behind, arrived-into}
use Rattle.mpdu.proofs.Scan.{whole, part, packet_long, packet_version, packet_size, drop-append-past, scan_stream, header_len-same, header_ok-same}

pub keep_false : (b : Bool) (p : List ℕ) (ps : List (List ℕ)) → b ≡ false → keep (b && not (is_idle p)) p ps ≡ ps
keep_false b p ps e = rw e refl

keep_true : (b : Bool) (p : List ℕ) (ps : List (List ℕ)) → b ≡ true → keep (b && not (is_idle p)) p ps ≡ keep (not (is_idle p)) p ps
keep_true b p ps e = rw e refl

keep-append : (b : Bool) (p : List ℕ) (ps qs : List (List ℕ)) → keep b p (ps ++ qs) ≡ keep b p ps ++ qs
keep-append true p ps qs = refl
keep-append false p ps qs = refl

-- the end of one more zone
pub end_more : (z : ℕ) (marks : List Bool) (k : Bool) → length (marks ++ k ∷ []) * z ≡ length marks * z + z
end_more z marks k =
    let e : length (marks ++ k ∷ []) ≡ length marks + 1 = length-append marks (k ∷ []) in
    ap (λ n. n * z) e ∙ (let f : (length marks + 1) * z ≡ length marks * z + z = omega arith in f)

-- of packets that end after the marks none survives
pub survivors-behind : (z : ℕ) (marks : List Bool) (a : ℕ) (ps : List (List ℕ)) → ArePackets ps → length marks * z ≤ a → survivors z marks a ps ≡ []
survivors-behind z marks a [] h le = refl
survivors-behind z marks a (p ∷ ps) h le =
    let long : 7 ≤ length p = packet_long p h.0 in
    let no : arrived z 0 marks a (a + length p) ≡ false = arrived-past z 0 marks a (a + length p) (omega arith) in
    keep_false (arrived z 0 marks a (a + length p)) p (survivors z marks (a + length p) ps) no ∙ survivors-behind z marks (a + length p) ps h.1 (omega arith)

-- If the zone was delivered, and the zones before it that the first packet meets: what survives is
-- what lies whole below the zone's end.
pub head_survives : (z : ℕ) (marks : List Bool) (a : ℕ) (p : List ℕ) (ps : List (List ℕ)) → 0 < z → IsPacket p → ArePackets ps →
    length marks * z < a + length p → arrived z 0 marks a (length marks * z) ≡ true →
    (a + length p ≤ length marks * z + z → survivors z (marks ++ true ∷ []) (a + length p) ps ≡ whole (length marks * z + z - (a + length p)) ps) →
    a ≤ length marks * z + z →
    survivors z (marks ++ true ∷ []) a (p ∷ ps) ≡ whole (length marks * z + z - a) (p ∷ ps)
head_survives z marks a p ps pos hp hs lo ok tail hi =
    let e : ℕ = length marks * z in
    let long : 7 ≤ length p = packet_long p hp in
    let m : List Bool = marks ++ true ∷ [] in
    let em : length (marks ++ true ∷ []) * z ≡ length marks * z + z = end_more z marks true in
    let rest : List (List ℕ) = survivors z m (a + length p) ps in
    let over : a + length p ≤ e + z → survivors z m a (p ∷ ps) ≡ whole (e + z - a) (p ∷ ps) = λ (c : a + length p ≤ e + z).
    let yes : arrived z 0 m a (a + length p) ≡ true = arrived-into z 0 marks true a (a + length p) e pos (omega arith) lo c (omega arith) ∙ ok in
    let t : nat_le (length p) (e + z - a) ≡ true = le-leb (length p) (e + z - a) (omega arith) in
    let k : e + z - (a + length p) ≡ e + z - a - length p = omega arith in
    keep_true (arrived z 0 m a (a + length p)) p rest yes ∙ ap (λ l. keep (not (is_idle p)) p l) (tail c ∙ ap (λ n. whole n ps) k) ∙ rw t refl in
    let within : e + z < a + length p → survivors z m a (p ∷ ps) ≡ whole (e + z - a) (p ∷ ps) = λ (c : e + z < a + length p).
    let no : arrived z 0 m a (a + length p) ≡ false = arrived-past z 0 m a (a + length p) (omega arith) in
    let t : nat_le (length p) (e + z - a) ≡ false = lt-leb (length p) (e + z - a) (omega arith) in
    keep_false (arrived z 0 m a (a + length p)) p rest no ∙ survivors-behind z m (a + length p) ps hs (omega arith) ∙ rw t refl in
    elim (cases_lt (e + z) (a + length p)) [ inl c ↦ within c | inr c ↦ over c ]

pub rest_survives : (z : ℕ) (marks : List Bool) (a : ℕ) (ps : List (List ℕ)) → 0 < z → ArePackets ps → length marks * z ≤ a → a ≤ length marks * z + z →
    survivors z (marks ++ true ∷ []) a ps ≡ whole (length marks * z + z - a) ps
rest_survives z marks a [] pos h lo hi = refl
rest_survives z marks a (p ∷ ps) pos h lo hi =
    let long : 7 ≤ length p = packet_long p h.0 in
    head_survives z marks a p ps pos h.0 h.1 (omega arith) (arrived-behind z 0 marks a (length marks * z) (omega arith) lo)
    (λ (c : a + length p ≤ length marks * z + z). rest_survives z marks (a + length p) ps pos h.1 (omega arith) c) hi

-- and what is begun is what comes of the next
pub head_begun : (z : ℕ) (marks : List Bool) (a : ℕ) (p : List ℕ) (ps : List (List ℕ)) → 0 < z →
    arrived z 0 marks a (length marks * z) ≡ true →
    (a + length p ≤ length marks * z + z → begun z (marks ++ true ∷ []) (a + length p) ps ≡ part (length marks * z + z - (a + length p)) ps) →
    a ≤ length marks * z + z →
    begun z (marks ++ true ∷ []) a (p ∷ ps) ≡ part (length marks * z + z - a) (p ∷ ps)
head_begun z marks a p ps pos ok tail hi =
    let e : ℕ = length marks * z in
    let m : List Bool = marks ++ true ∷ [] in
    let em : length (marks ++ true ∷ []) * z ≡ length marks * z + z = end_more z marks true in
    let over : a + length p ≤ e + z → begun z m a (p ∷ ps) ≡ part (e + z - a) (p ∷ ps) = λ (c : a + length p ≤ e + z).
    let t : nat_le (length p) (e + z - a) ≡ true = le-leb (length p) (e + z - a) (omega arith) in
    let u : nat_le (a + length p) (length (marks ++ true ∷ []) * z) ≡ true = le-leb (a + length p) (length (marks ++ true ∷ []) * z) (omega arith) in
    let k : e + z - (a + length p) ≡ e + z - a - length p = omega arith in
    rw (u, t) (tail c ∙ ap (λ n. part n ps) k) in
    let within : e + z < a + length p → begun z m a (p ∷ ps) ≡ part (e + z - a) (p ∷ ps) = λ (c : e + z < a + length p).
    let t : nat_le (length p) (e + z - a) ≡ false = lt-leb (length p) (e + z - a) (omega arith) in
    let u : nat_le (a + length p) (length (marks ++ true ∷ []) * z) ≡ false = lt-leb (a + length p) (length (marks ++ true ∷ []) * z) (omega arith) in
    let inside : a < e + z → arrived z 0 m a (length m * z) ≡ true = λ (d : a < e + z). arrived-into z 0 marks true a (length m * z) e pos (omega arith) (omega arith) (omega arith) d ∙ ok in
    let behind : e + z ≤ a → arrived z 0 m a (length m * z) ≡ true = λ (d : e + z ≤ a). arrived-behind z 0 m a (length m * z) (omega arith) (omega arith) in
    let yes : arrived z 0 m a (length m * z) ≡ true = elim (cases_lt a (e + z)) [ inl d ↦ inside d | inr d ↦ behind d ] in
    rw (u, t, yes) (ap (λ n. take (n - a) p) em) in
    elim (cases_lt (e + z) (a + length p)) [ inl c ↦ within c | inr c ↦ over c ]

pub rest_begun : (z : ℕ) (marks : List Bool) (a : ℕ) (ps : List (List ℕ)) → 0 < z → ArePackets ps → length marks * z ≤ a → a ≤ length marks * z + z →
    begun z (marks ++ true ∷ []) a ps ≡ part (length marks * z + z - a) ps
rest_begun z marks a [] pos h lo hi = refl
rest_begun z marks a (p ∷ ps) pos h lo hi =
    head_begun z marks a p ps pos (arrived-behind z 0 marks a (length marks * z) (omega arith) lo)
    (λ (c : a + length p ≤ length marks * z + z). rest_begun z marks (a + length p) ps pos h.1 (omega arith) c) hi

-- reading what is the first k octets of a stream
scan_is : (xs : List ℕ) (k : ℕ) (ps : List (List ℕ)) → ArePackets ps → k ≤ length (stream ps) → xs ≡ take k (stream ps) →
    scan (length xs) xs ≡ record { begun = part k ps; out = whole k ps; bad = false }
scan_is xs k ps h room is =
    let len : length xs ≡ k = ap length is ∙ length-take-le k (stream ps) room in
    ap (λ l. scan (length xs) l) is ∙ scan_stream (length xs) k ps h room (omega arith)

pub goes_on_at : (z : ℕ) (held : List ℕ) (at : ℕ) (octets : List ℕ) → 0 < length held → header_ok (held ++ octets) ≡ true →
    at ≡ pointer_after z (header_len (held ++ octets) - length held) → goes_on z held at octets ≡ true
goes_on_at z [] at octets pos ok is = absurd (omega arith)
goes_on_at z (b ∷ bs) at octets pos ok is = rw (ok, eq-eqb at (pointer_after z (header_len (b ∷ bs ++ octets) - length (b ∷ bs))) is) refl

pub take-add : (c z : ℕ) (xs : List ℕ) → take c xs ++ take z (drop c xs) ≡ take (c + z) xs
take-add c z xs =
    let le : c ≤ c + z = omega arith in
    ap (λ l. l ++ take z (drop c xs)) (sym (take-take c (c + z) xs le)) ∙ ap (λ l. take c (take (c + z) xs) ++ l) (sym (drop-take c z xs)) ∙ take-append-drop c (take (c + z) xs)

-- where the next packet starts
pub pointer_next : (z e a : ℕ) (ps : List (List ℕ)) → e ≤ a → e + z ≤ a + length (stream ps) → first_header_pointer z e a ps ≡ pointer_after z (a - e)
pointer_next z e a [] le room =
    let t : nat_lt (a - e) z ≡ false = le-ltb (a - e) z (omega arith) in
    rw t refl
pointer_next z e a (p ∷ ps) le room =
    let t : nat_le e a ≡ true = le-leb e a le in
    let near : a < e + z → first_header_pointer z e a (p ∷ ps) ≡ pointer_after z (a - e) = λ (c : a < e + z).
    let u : nat_lt a (e + z) ≡ true = lt-ltb a (e + z) c in
    let v : nat_lt (a - e) z ≡ true = lt-ltb (a - e) z (omega arith) in
    rw (t, u, v) refl in
    let far : e + z ≤ a → first_header_pointer z e a (p ∷ ps) ≡ pointer_after z (a - e) = λ (c : e + z ≤ a).
    let u : nat_lt a (e + z) ≡ false = le-ltb a (e + z) c in
    let v : nat_lt (a - e) z ≡ false = le-ltb (a - e) z (omega arith) in
    rw (t, u, v) refl in
    elim (cases_lt a (e + z)) [ inl c ↦ near c | inr c ↦ far c ]

part_none : (ps : List (List ℕ)) → ArePackets ps → part 0 ps ≡ []
part_none [] h = refl
part_none (p ∷ ps) h =
    let t : nat_le (length p) 0 ≡ false = lt-leb (length p) 0 (omega (arith, packet_long p h.0)) in
    rw t refl

-- what reading the next zone must leave, and give
pub record FedRight (z : ℕ) (marks : List Bool) (a : ℕ) (ps : List (List ℕ)) (r : Read) : Type 0 where
  pub held : r.begun ≡ begun z (marks ++ true ∷ []) a ps
  pub given : survivors z (marks ++ true ∷ []) a ps ≡ survivors z marks a ps ++ r.out
  pub good : r.bad ≡ false

-- the zone begins where a packet does
fed_at_start : (z : ℕ) (marks : List Bool) (a : ℕ) (p : List ℕ) (ps : List (List ℕ)) → 6 ≤ z → ArePackets (p ∷ ps) → a ≡ length marks * z → length marks * z + z ≤ a + length (stream (p ∷ ps)) →
    FedRight z marks a (p ∷ ps) (step z (begun z marks a (p ∷ ps)) (first_header_pointer z (length marks * z) a (p ∷ ps)) (zone z (length marks * z - a) (stream (p ∷ ps))))
fed_at_start z marks a p ps zl h start room =
    let e : ℕ = length marks * z in
    let long : 7 ≤ length p = packet_long p h.0 in
    let s : List ℕ = p ++ stream ps in
    let ok : arrived z 0 marks a e ≡ true = arrived-behind z 0 marks a e (omega arith) (omega arith) in
    let t : nat_le (a + length p) e ≡ false = lt-leb (a + length p) e (omega arith) in
    let c0 : e - a ≡ 0 = omega arith in
    let c1 : a - e ≡ 0 = omega arith in
    let held : begun z marks a (p ∷ ps) ≡ [] = rw (t, ok, c0) refl in
    let u : nat_le e a ≡ true = le-leb e a (omega arith) in
    let v : nat_lt a (e + z) ≡ true = lt-ltb a (e + z) (omega arith) in
    let at : first_header_pointer z e a (p ∷ ps) ≡ 0 = rw (u, v) c1 in
    let octets : zone z (e - a) s ≡ take z s = ap (λ n. take z (drop n s)) c0 in
    let k : z ≡ e + z - a = omega arith in
    let read : step z (begun z marks a (p ∷ ps)) (first_header_pointer z e a (p ∷ ps)) (zone z (e - a) s)
    ≡ record { begun = part (e + z - a) (p ∷ ps); out = whole (e + z - a) (p ∷ ps); bad = false } =
    ap (λ b. step z b (first_header_pointer z e a (p ∷ ps)) (zone z (e - a) s)) held ∙ ap (λ n. step z [] n (zone z (e - a) s)) at
    ∙ scan_is (zone z (e - a) s) (e + z - a) (p ∷ ps) h (omega arith) (octets ∙ ap (λ n. take n s) k) in
    let none : survivors z marks a (p ∷ ps) ≡ [] = survivors-behind z marks a (p ∷ ps) h (omega arith) in
    record {
      good = ap (λ r. r.bad) read;
      held = ap (λ r. r.begun) read ∙ sym (rest_begun z marks a (p ∷ ps) (omega arith) h (omega arith) (omega arith));
      given = rest_survives z marks a (p ∷ ps) (omega arith) h (omega arith) (omega arith)
          ∙ sym (ap (λ l. l ++ (step z (begun z marks a (p ∷ ps)) (first_header_pointer z e a (p ∷ ps)) (zone z (e - a) s)).out) none ∙ ap (λ r. r.out) read);
    }

-- Inside of a packet, all of whose zones so far came, that packet goes on.
pub goes_on_inside : (z : ℕ) (marks : List Bool) (a : ℕ) (p : List ℕ) (ps : List (List ℕ)) → 6 ≤ z → ArePackets (p ∷ ps) → a < length marks * z → length marks * z < a + length p →
    length marks * z + z ≤ a + length (stream (p ∷ ps)) → arrived z 0 marks a (length marks * z) ≡ true →
    goes_on z (begun z marks a (p ∷ ps)) (first_header_pointer z (length marks * z) a (p ∷ ps)) (zone z (length marks * z - a) (stream (p ∷ ps))) ≡ true
goes_on_inside z marks a p ps zl h before behind room ok =
    let e : ℕ = length marks * z in
    let c : ℕ = e - a in
    let long : 7 ≤ length p = packet_long p h.0 in
    let s : List ℕ = p ++ stream ps in
    let all : length s ≡ length p + length (stream ps) = length-append p (stream ps) in
    let t : nat_le (a + length p) e ≡ false = lt-leb (a + length p) e behind in
    let held : begun z marks a (p ∷ ps) ≡ take c p = rw (t, ok) refl in
    let u : nat_le e a ≡ false = lt-leb e a before in
    let at : first_header_pointer z e a (p ∷ ps) ≡ pointer_after z (a + length p - e) = rw u (pointer_next z e (a + length p) ps (omega arith) (omega arith)) in
    let zn : List ℕ = zone z (e - a) s in
    let front : take c p ≡ take c s = sym (take-append-le c p (stream ps) (omega arith)) in
    let joined : take c p ++ zn ≡ take (c + z) s = ap (λ l. l ++ zn) front ∙ take-add c z s in
    let head : take 6 (take c p ++ zn) ≡ take 6 p = ap (λ l. take 6 l) joined ∙ take-take 6 (c + z) s (omega arith) ∙ take-append-le 6 p (stream ps) (omega arith) in
    let good : header_ok (take c p ++ zn) ≡ true = header_ok-same (take c p ++ zn) p head ∙ packet_version p h.0 in
    let size : header_len (take c p ++ zn) ≡ length p = header_len-same (take c p ++ zn) p head ∙ packet_size p h.0 in
    let lc : length (take c p) ≡ c = length-take-le c p (omega arith) in
    let m : a + length p - e ≡ header_len (take c p ++ zn) - length (take c p) = omega arith in
    ap (λ b. goes_on z b (first_header_pointer z e a (p ∷ ps)) zn) held ∙ ap (λ n. goes_on z (take c p) n zn) at
    ∙ goes_on_at z (take c p) (pointer_after z (a + length p - e)) zn (omega arith) good (ap (λ n. pointer_after z n) m)

-- the zone begins inside of a packet, all of whose zones so far came
fed_inside : (z : ℕ) (marks : List Bool) (a : ℕ) (p : List ℕ) (ps : List (List ℕ)) → 6 ≤ z → ArePackets (p ∷ ps) → a < length marks * z → length marks * z < a + length p →
    length marks * z + z ≤ a + length (stream (p ∷ ps)) → arrived z 0 marks a (length marks * z) ≡ true →
    FedRight z marks a (p ∷ ps) (step z (begun z marks a (p ∷ ps)) (first_header_pointer z (length marks * z) a (p ∷ ps)) (zone z (length marks * z - a) (stream (p ∷ ps))))
fed_inside z marks a p ps zl h before behind room ok =
    let e : ℕ = length marks * z in
    let c : ℕ = e - a in
    let long : 7 ≤ length p = packet_long p h.0 in
    let s : List ℕ = p ++ stream ps in
    let all : length s ≡ length p + length (stream ps) = length-append p (stream ps) in
    let t : nat_le (a + length p) e ≡ false = lt-leb (a + length p) e behind in
    let held : begun z marks a (p ∷ ps) ≡ take c p = rw (t, ok) refl in
    let u : nat_le e a ≡ false = lt-leb e a before in
    let at : first_header_pointer z e a (p ∷ ps) ≡ pointer_after z (a + length p - e) = rw u (pointer_next z e (a + length p) ps (omega arith) (omega arith)) in
    let zn : List ℕ = zone z (e - a) s in
    let front : take c p ≡ take c s = sym (take-append-le c p (stream ps) (omega arith)) in
    let joined : take c p ++ zn ≡ take (c + z) s = ap (λ l. l ++ zn) front ∙ take-add c z s in
    let on : goes_on z (take c p) (pointer_after z (a + length p - e)) zn ≡ true =
    sym (ap (λ b. goes_on z b (first_header_pointer z e a (p ∷ ps)) zn) held ∙ ap (λ n. goes_on z (take c p) n zn) at) ∙ goes_on_inside z marks a p ps zl h before behind room ok in
    let k : c + z ≡ e + z - a = omega arith in
    let read : step z (begun z marks a (p ∷ ps)) (first_header_pointer z e a (p ∷ ps)) zn ≡ record { begun = part (e + z - a) (p ∷ ps); out = whole (e + z - a) (p ∷ ps); bad = false } =
    ap (λ b. step z b (first_header_pointer z e a (p ∷ ps)) zn) held ∙ ap (λ n. step z (take c p) n zn) at
    ∙ rw on (scan_is (take c p ++ zn) (e + z - a) (p ∷ ps) h (omega arith) (joined ∙ ap (λ n. take n s) k)) in
    let none : survivors z marks a (p ∷ ps) ≡ [] =
    keep_false (arrived z 0 marks a (a + length p)) p (survivors z marks (a + length p) ps) (arrived-past z 0 marks a (a + length p) (omega arith))
    ∙ survivors-behind z marks (a + length p) ps h.1 (omega arith) in
    record {
      good = ap (λ r. r.bad) read;
      held = ap (λ r. r.begun) read ∙ sym (head_begun z marks a p ps (omega arith) ok
          (λ (d : a + length p ≤ e + z). rest_begun z marks (a + length p) ps (omega arith) h.1 (omega arith) d) (omega arith));
      given = head_survives z marks a p ps (omega arith) h.0 h.1 behind ok
          (λ (d : a + length p ≤ e + z). rest_survives z marks (a + length p) ps (omega arith) h.1 (omega arith) d) (omega arith)
          ∙ sym (ap (λ l. l ++ (step z (begun z marks a (p ∷ ps)) (first_header_pointer z e a (p ∷ ps)) zn).out) none ∙ ap (λ r. r.out) read);
    }

-- the zone begins inside of a packet of which a zone was lost
fed_lost : (z : ℕ) (marks : List Bool) (a : ℕ) (p : List ℕ) (ps : List (List ℕ)) → 6 ≤ z → z ≤ 2040 → ArePackets (p ∷ ps) → a < length marks * z → length marks * z < a + length p →
    length marks * z + z ≤ a + length (stream (p ∷ ps)) → arrived z 0 marks a (length marks * z) ≡ false →
    FedRight z marks a (p ∷ ps) (step z (begun z marks a (p ∷ ps)) (first_header_pointer z (length marks * z) a (p ∷ ps)) (zone z (length marks * z - a) (stream (p ∷ ps))))
fed_lost z marks a p ps zl zh h before behind room lost =
    let e : ℕ = length marks * z in
    let m : List Bool = marks ++ true ∷ [] in
    let em : length (marks ++ true ∷ []) * z ≡ length marks * z + z = end_more z marks true in
    let c : ℕ = e - a in
    let long : 7 ≤ length p = packet_long p h.0 in
    let s : List ℕ = p ++ stream ps in
    let all : length s ≡ length p + length (stream ps) = length-append p (stream ps) in
    let t : nat_le (a + length p) e ≡ false = lt-leb (a + length p) e behind in
    let held : begun z marks a (p ∷ ps) ≡ [] = rw (t, lost) refl in
    let u : nat_le e a ≡ false = lt-leb e a before in
    let at : first_header_pointer z e a (p ∷ ps) ≡ pointer_after z (a + length p - e) = rw u (pointer_next z e (a + length p) ps (omega arith) (omega arith)) in
    let zn : List ℕ = zone z (e - a) s in
    let opened : step z (begun z marks a (p ∷ ps)) (first_header_pointer z e a (p ∷ ps)) zn
    ≡ scan (length (drop (pointer_after z (a + length p - e)) zn)) (drop (pointer_after z (a + length p - e)) zn) =
    ap (λ b. step z b (first_header_pointer z e a (p ∷ ps)) zn) held ∙ ap (λ n. step z [] n zn) at in
    let none : survivors z marks a (p ∷ ps) ≡ [] =
    keep_false (arrived z 0 marks a (a + length p)) p (survivors z marks (a + length p) ps) (arrived-past z 0 marks a (a + length p) (omega arith))
    ∙ survivors-behind z marks (a + length p) ps h.1 (omega arith) in
    let T : Type 0 = FedRight z marks a (p ∷ ps) (step z (begun z marks a (p ∷ ps)) (first_header_pointer z e a (p ∷ ps)) zn) in
    let ends : a + length p < e + z → T = λ (d : a + length p < e + z).
    let n : ℕ = a + length p - e in
    let v : nat_lt n z ≡ true = lt-ltb n z (omega arith) in
    let ptr : pointer_after z n ≡ n = rw v refl in
    let k : ℕ = e + z - (a + length p) in
    let nk : n + k ≡ z = omega arith in
    let past : drop n (drop c s) ≡ stream ps = drop-drop n c s ∙ drop-append-past (c + n) p (stream ps) (omega arith)
    ∙ (let f : c + n - length p ≡ 0 = omega arith in ap (λ i. drop i (stream ps)) f) in
    let rest : drop (pointer_after z n) zn ≡ take k (stream ps) = ap (λ i. drop i zn) ptr ∙ ap (λ i. drop n (take i (drop c s))) (sym nk) ∙ drop-take n k (drop c s) ∙ ap (λ l. take k l) past in
    let read : step z (begun z marks a (p ∷ ps)) (first_header_pointer z e a (p ∷ ps)) zn ≡ record { begun = part k ps; out = whole k ps; bad = false } =
    opened ∙ scan_is (drop (pointer_after z n) zn) k ps h.1 (omega arith) rest in
    let t' : nat_le (a + length p) (length (marks ++ true ∷ []) * z) ≡ true = le-leb (a + length p) (length (marks ++ true ∷ []) * z) (omega arith) in
    let held' : begun z m a (p ∷ ps) ≡ begun z m (a + length p) ps = rw t' refl in
    let gone : arrived z 0 m a (a + length p) ≡ false = arrived-into z 0 marks true a (a + length p) e (omega arith) (omega arith) behind (omega arith) (omega arith) ∙ lost in
    record {
      good = ap (λ r. r.bad) read;
      held = ap (λ r. r.begun) read ∙ sym (held' ∙ rest_begun z marks (a + length p) ps (omega arith) h.1 (omega arith) (omega arith));
      given = keep_false (arrived z 0 m a (a + length p)) p (survivors z m (a + length p) ps) gone ∙ rest_survives z marks (a + length p) ps (omega arith) h.1 (omega arith) (omega arith)
          ∙ sym (ap (λ l. l ++ (step z (begun z marks a (p ∷ ps)) (first_header_pointer z e a (p ∷ ps)) zn).out) none ∙ ap (λ r. r.out) read);
    } in
    let passes : e + z ≤ a + length p → T = λ (d : e + z ≤ a + length p).
    let n : ℕ = a + length p - e in
    let v : nat_lt n z ≡ false = le-ltb n z (omega arith) in
    let ptr : pointer_after z n ≡ 2047 = rw v refl in
    let rest : drop (pointer_after z n) zn ≡ [] = ap (λ i. drop i zn) ptr ∙ drop_all 2047 zn (omega (arith, length-take z (drop (e - a) s))) in
    let read : step z (begun z marks a (p ∷ ps)) (first_header_pointer z e a (p ∷ ps)) zn ≡ record { begun = []; out = []; bad = false } = opened ∙ ap (λ l. scan (length l) l) rest in
    let k0 : e + z - (a + length p) ≡ 0 = omega arith in
    let over : e + z < a + length p → begun z m a (p ∷ ps) ≡ [] = λ (o : e + z < a + length p).
    let t' : nat_le (a + length p) (length (marks ++ true ∷ []) * z) ≡ false = lt-leb (a + length p) (length (marks ++ true ∷ []) * z) (omega arith) in
    let f : arrived z 0 m a (length m * z) ≡ false = arrived-into z 0 marks true a (length m * z) e (omega arith) (omega arith) (omega arith) (omega arith) (omega arith) ∙ lost in
    rw (t', f) refl in
    let exact : a + length p ≤ e + z → begun z m a (p ∷ ps) ≡ [] = λ (o : a + length p ≤ e + z).
    let t' : nat_le (a + length p) (length (marks ++ true ∷ []) * z) ≡ true = le-leb (a + length p) (length (marks ++ true ∷ []) * z) (omega arith) in
    rw t' (rest_begun z marks (a + length p) ps (omega arith) h.1 (omega arith) o ∙ ap (λ i. part i ps) k0 ∙ part_none ps h.1) in
    let empty : begun z m a (p ∷ ps) ≡ [] = elim (cases_lt (e + z) (a + length p)) [ inl o ↦ over o | inr o ↦ exact o ] in
    let gone : arrived z 0 m a (a + length p) ≡ false =
    elim (cases_lt (e + z) (a + length p)) [
      | inl o ↦ arrived-past z 0 m a (a + length p) (omega arith)
      | inr o ↦ arrived-into z 0 marks true a (a + length p) e (omega arith) (omega arith) behind o
          (omega arith) ∙ lost
    ] in
    record {
      good = ap (λ r. r.bad) read;
      held = ap (λ r. r.begun) read ∙ sym empty;
      given = keep_false (arrived z 0 m a (a + length p)) p (survivors z m (a + length p) ps) gone ∙ survivors-behind z m (a + length p) ps h.1 (omega arith)
          ∙ sym (ap (λ l. l ++ (step z (begun z marks a (p ∷ ps)) (first_header_pointer z e a (p ∷ ps)) zn).out) none ∙ ap (λ r. r.out) read);
    } in
    elim (cases_lt (a + length p) (e + z)) [ inl d ↦ ends d | inr d ↦ passes d ]

-- The zone after the marks read: what is begun then, and the survivors that it completes.
pub fed : (z : ℕ) (marks : List Bool) (a : ℕ) (ps : List (List ℕ)) → 6 ≤ z → z ≤ 2040 → ArePackets ps → a ≤ length marks * z → length marks * z + z ≤ a + length (stream ps) →
    FedRight z marks a ps (step z (begun z marks a ps) (first_header_pointer z (length marks * z) a ps) (zone z (length marks * z - a) (stream ps)))
fed z marks a [] zl zh h le room = absurd (omega arith)
fed z marks a (p ∷ ps) zl zh h le room =
    let e : ℕ = length marks * z in
    let m : List Bool = marks ++ true ∷ [] in
    let long : 7 ≤ length p = packet_long p h.0 in
    let all : length (p ++ stream ps) ≡ length p + length (stream ps) = length-append p (stream ps) in
    let T : Type 0 = FedRight z marks a (p ∷ ps) (step z (begun z marks a (p ∷ ps)) (first_header_pointer z e a (p ∷ ps)) (zone z (e - a) (stream (p ∷ ps)))) in
    let done : a + length p ≤ e → T = λ (c : a + length p ≤ e).
    let em : length (marks ++ true ∷ []) * z ≡ length marks * z + z = end_more z marks true in
    let t : nat_le (a + length p) e ≡ true = le-leb (a + length p) e c in
    let t' : nat_le (a + length p) (length (marks ++ true ∷ []) * z) ≡ true = le-leb (a + length p) (length (marks ++ true ∷ []) * z) (omega arith) in
    let u : nat_le e a ≡ false = lt-leb e a (omega arith) in
    let k : e - a - length p ≡ e - (a + length p) = omega arith in
    let held : begun z marks a (p ∷ ps) ≡ begun z marks (a + length p) ps = rw t refl in
    let at : first_header_pointer z e a (p ∷ ps) ≡ first_header_pointer z e (a + length p) ps = rw u refl in
    let octets : zone z (e - a) (p ++ stream ps) ≡ zone z (e - (a + length p)) (stream ps) = ap (λ l. take z l) (drop-append-past (e - a) p (stream ps) (omega arith))
    ∙ ap (λ n. take z (drop n (stream ps))) k in
    let ih : FedRight z marks (a + length p) ps (step z (begun z marks (a + length p) ps) (first_header_pointer z e (a + length p) ps) (zone z (e - (a + length p)) (stream ps))) =
    fed z marks (a + length p) ps zl zh h.1 c (omega arith) in
    let same : step z (begun z marks a (p ∷ ps)) (first_header_pointer z e a (p ∷ ps)) (zone z (e - a) (p ++ stream ps))
    ≡ step z (begun z marks (a + length p) ps) (first_header_pointer z e (a + length p) ps) (zone z (e - (a + length p)) (stream ps)) =
    ap (λ b. step z b (first_header_pointer z e a (p ∷ ps)) (zone z (e - a) (p ++ stream ps))) held
    ∙ ap (λ n. step z (begun z marks (a + length p) ps) n (zone z (e - a) (p ++ stream ps))) at
    ∙ ap (λ l. step z (begun z marks (a + length p) ps) (first_header_pointer z e (a + length p) ps) l) octets in
    let held' : begun z m a (p ∷ ps) ≡ begun z m (a + length p) ps = rw t' refl in
    let mark : arrived z 0 m a (a + length p) ≡ arrived z 0 marks a (a + length p) = arrived-before z 0 marks true a (a + length p) (omega arith) in
    record {
      good = ap (λ r. r.bad) same ∙ ih.good;
      held = ap (λ r. r.begun) same ∙ ih.held ∙ sym held';
      given = ap (λ b. keep (b && not (is_idle p)) p (survivors z m (a + length p) ps)) mark
          ∙ ap (λ l. keep (arrived z 0 marks a (a + length p) && not (is_idle p)) p l) (ih.given ∙ ap (λ r. survivors z marks (a + length p) ps ++ r.out) (sym same))
          ∙ keep-append (arrived z 0 marks a (a + length p) && not (is_idle p)) p (survivors z marks (a + length p) ps)
          (step z (begun z marks a (p ∷ ps)) (first_header_pointer z e a (p ∷ ps)) (zone z (e - a) (p ++ stream ps))).out;
    } in
    let begins : e < a + length p → e ≤ a → T = λ (c : e < a + length p) (d : e ≤ a). fed_at_start z marks a p ps zl h (omega arith) room in
    let inside : e < a + length p → a < e → T = λ (c : e < a + length p) (d : a < e).
    elim (cases_Bool (arrived z 0 marks a e)) [ inl y ↦ fed_inside z marks a p ps zl h d c room y | inr n ↦ fed_lost z marks a p ps zl zh h d c room n ] in
    elim (cases_lt e (a + length p)) [ inl c ↦ elim (cases_lt a e) [ inl d ↦ inside c d | inr d ↦ begins c d ] | inr c ↦ done c ]
