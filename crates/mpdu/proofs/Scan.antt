-- Exported: packets found in octets, one after the other.
use Rattle.std.proofs.Common.{◌≡◌, ℕ, zero, suc, ◌+◌, ◌-◌, ◌<◌, ◌≤◌, true, false, not, cond, nat_eq, nat_lt, nat_le, List, [], ◌∷◌, ◌++◌, length, take, drop, refl, sym, ap, ◌∙◌, inl, inr, arith, length-append, length-drop}
use Rattle.std.proofs.lemmas.Bool.{lt-ltb, le-ltb, le-leb, lt-leb, cases_lt}
use Rattle.std.proofs.lemmas.List.{take_at, drop_at, take-append-le, length-take-le, take-take}
use Rattle.mpdu.specs.Stream.{stream, keep, header_len, header_ok, is_idle, IsPacket, ArePackets}
use Rattle.mpdu.specs.Reading.{emit, scan}
use Rattle.cfd_bits.specs.Field.{field}
use Rattle.cfd_bits.proofs.BitFields.{field-take, field-below}
use Rattle.std.proofs.lemmas.Bool.{eq-eqb}

-- the packets that lie whole in the first k octets, and what comes of the next
abbrev pub whole : ℕ → List (List ℕ) → List (List ℕ)
whole k [] = []
whole k (p ∷ ps) = cond (nat_le (length p) k) (keep (not (is_idle p)) p (whole (k - length p) ps)) []

abbrev pub part : ℕ → List (List ℕ) → List ℕ
part k [] = []
part k (p ∷ ps) = cond (nat_le (length p) k) (part (k - length p) ps) (take k p)

field-same_front : (xs ys : List ℕ) (at w : ℕ) → at + w ≤ 48 → take 6 xs ≡ take 6 ys → field xs at w ≡ field ys at w
field-same_front xs ys at w h e = sym (field-take 6 xs at w h) ∙ ap (λ l. field l at w) e ∙ field-take 6 ys at w h

pub header_len-same : (xs ys : List ℕ) → take 6 xs ≡ take 6 ys → header_len xs ≡ header_len ys
unfolding header_len
header_len-same xs ys e = ap (λ n. 7 + n) (field-same_front xs ys 32 16 (omega arith) e)

pub header_ok-same : (xs ys : List ℕ) → take 6 xs ≡ take 6 ys → header_ok xs ≡ header_ok ys
unfolding header_ok
header_ok-same xs ys e = ap (λ n. nat_eq n 0) (field-same_front xs ys 0 3 (omega arith) e)

-- what a packet's header says
pub packet_version : (p : List ℕ) → IsPacket p → header_ok p ≡ true
unfolding header_ok
packet_version p h = eq-eqb (field p 0 3) 0 h.spelled.version

pub packet_size : (p : List ℕ) → IsPacket p → header_len p ≡ length p
unfolding header_len
packet_size p h = omega (arith, h.spelled.data_length, h.spelled.size)

pub header_len-short : (xs : List ℕ) → header_len xs ≤ 65542
unfolding header_len
header_len-short xs = omega (arith, field-below xs 32 16)

pub header_len-long : (xs : List ℕ) → 7 ≤ header_len xs
unfolding header_len
header_len-long xs = omega arith

pub packet_long : (p : List ℕ) → IsPacket p → 7 ≤ length p
packet_long p h = omega (arith, header_len-long p, packet_size p h)

-- a list cut inside of its second part
pub take-append-past : (k : ℕ) (xs ys : List ℕ) → length xs ≤ k → take k (xs ++ ys) ≡ xs ++ take (k - length xs) ys
take-append-past k [] ys h = let e : k ≡ k - 0 = omega arith in ap (λ n. take n ys) e
take-append-past zero (x ∷ xs) ys h = absurd (omega arith)
take-append-past (suc k) (x ∷ xs) ys h =
    let e : k - length xs ≡ suc k - suc (length xs) = omega arith in
    ap (λ l. x ∷ l) (take-append-past k xs ys (omega arith) ∙ ap (λ n. xs ++ take n ys) e)

pub drop-append-past : (k : ℕ) (xs ys : List ℕ) → length xs ≤ k → drop k (xs ++ ys) ≡ drop (k - length xs) ys
drop-append-past k [] ys h = let e : k ≡ k - 0 = omega arith in ap (λ n. drop n ys) e
drop-append-past zero (x ∷ xs) ys h = absurd (omega arith)
drop-append-past (suc k) (x ∷ xs) ys h =
    let e : k - length xs ≡ suc k - suc (length xs) = omega arith in
    drop-append-past k xs ys (omega arith) ∙ ap (λ n. drop n ys) e

-- a whole packet in front is read first
pub scan_first : (n : ℕ) (p rest : List ℕ) → IsPacket p → scan (suc n) (p ++ rest) ≡ emit p (scan n rest)
scan_first n p rest h =
    let long : 7 ≤ length p = packet_long p h in
    let head : take 6 (p ++ rest) ≡ take 6 p = take-append-le 6 p rest (omega arith) in
    let ok : header_ok (p ++ rest) ≡ true = header_ok-same (p ++ rest) p head ∙ packet_version p h in
    let len : header_len (p ++ rest) ≡ length p = header_len-same (p ++ rest) p head ∙ packet_size p h in
    let all : length (p ++ rest) ≡ length p + length rest = length-append p rest in
    let t1 : nat_lt (length (p ++ rest)) 6 ≡ false = le-ltb (length (p ++ rest)) 6 (omega arith) in
    let t2 : nat_lt (length (p ++ rest)) (length p) ≡ false = le-ltb (length (p ++ rest)) (length p) (omega arith) in
    rw (t1, ok, len, t2, take_at p rest (length p) refl, drop_at p rest (length p) refl) refl

-- what a packet is cut to is held
pub scan_cut : (n k : ℕ) (p : List ℕ) → IsPacket p → k < length p → k ≤ n → scan n (take k p) ≡ record { begun = take k p; out = []; bad = false }
scan_cut zero k p h lt few = let e : k ≡ 0 = omega arith in rw e refl
scan_cut (suc n) k p h lt few =
    let len : length (take k p) ≡ k = length-take-le k p (omega arith) in
    let short : k < 6 → scan (suc n) (take k p) ≡ record { begun = take k p; out = []; bad = false } = λ (c : k < 6).
    let t1 : nat_lt (length (take k p)) 6 ≡ true = lt-ltb (length (take k p)) 6 (omega arith) in
    rw t1 refl in
    let long : 6 ≤ k → scan (suc n) (take k p) ≡ record { begun = take k p; out = []; bad = false } = λ (c : 6 ≤ k).
    let t1 : nat_lt (length (take k p)) 6 ≡ false = le-ltb (length (take k p)) 6 (omega arith) in
    let head : take 6 (take k p) ≡ take 6 p = take-take 6 k p c in
    let ok : header_ok (take k p) ≡ true = header_ok-same (take k p) p head ∙ packet_version p h in
    let hl : header_len (take k p) ≡ length p = header_len-same (take k p) p head ∙ packet_size p h in
    let t2 : nat_lt (length (take k p)) (length p) ≡ true = lt-ltb (length (take k p)) (length p) (omega arith) in
    rw (t1, ok, hl, t2) refl in
    elim (cases_lt k 6) [ inl c ↦ short c | inr c ↦ long c ]

-- Reading the first k octets of a stream of packets gives those that lie in them whole, and what
-- came of the next.
pub scan_stream : (n k : ℕ) (ps : List (List ℕ)) → ArePackets ps → k ≤ length (stream ps) → k ≤ n →
    scan n (take k (stream ps)) ≡ record { begun = part k ps; out = whole k ps; bad = false }
scan_stream zero k [] h room few = refl
scan_stream (suc n) k [] h room few = let e : k ≡ 0 = omega arith in rw e refl
scan_stream zero k (p ∷ ps) h room few =
    let e : k ≡ 0 = omega arith in
    let t : nat_le (length p) 0 ≡ false = lt-leb (length p) 0 (omega (arith, packet_long p h.0)) in
    rw (e, t) refl
scan_stream (suc n) k (p ∷ ps) h room few =
    let long : 7 ≤ length p = packet_long p h.0 in
    let all : length (p ++ stream ps) ≡ length p + length (stream ps) = length-append p (stream ps) in
    let over : length p ≤ k → scan (suc n) (take k (p ++ stream ps)) ≡ record { begun = part k (p ∷ ps); out = whole k (p ∷ ps); bad = false } = λ (c : length p ≤ k).
    let t : nat_le (length p) k ≡ true = le-leb (length p) k c in
    let cut : take k (p ++ stream ps) ≡ p ++ take (k - length p) (stream ps) = take-append-past k p (stream ps) c in
    let ih : scan n (take (k - length p) (stream ps)) ≡ record { begun = part (k - length p) ps; out = whole (k - length p) ps; bad = false } =
    scan_stream n (k - length p) ps h.1 (omega arith) (omega arith) in
    ap (λ l. scan (suc n) l) cut ∙ scan_first n p (take (k - length p) (stream ps)) h.0 ∙ ap (λ r. emit p r) ih ∙ rw t refl in
    let within : k < length p → scan (suc n) (take k (p ++ stream ps)) ≡ record { begun = part k (p ∷ ps); out = whole k (p ∷ ps); bad = false } = λ (c : k < length p).
    let t : nat_le (length p) k ≡ false = lt-leb (length p) k c in
    let cut : take k (p ++ stream ps) ≡ take k p = take-append-le k p (stream ps) (omega arith) in
    ap (λ l. scan (suc n) l) cut ∙ scan_cut (suc n) k p h.0 c few ∙ rw t refl in
    elim (cases_lt k (length p)) [ inl c ↦ within c | inr c ↦ over c ]

-- more turns than octets change nothing
pub scan_same : (n m : ℕ) (xs : List ℕ) → length xs ≤ n → length xs ≤ m → scan n xs ≡ scan m xs
scan_same zero zero xs h k = refl
scan_same zero (suc m) [] h k = refl
scan_same zero (suc m) (x ∷ xs) h k = absurd (omega arith)
scan_same (suc n) zero [] h k = refl
scan_same (suc n) zero (x ∷ xs) h k = absurd (omega arith)
scan_same (suc n) (suc m) [] h k = refl
scan_same (suc n) (suc m) (x ∷ xs) h k =
    let ih : scan n (drop (header_len (x ∷ xs)) (x ∷ xs)) ≡ scan m (drop (header_len (x ∷ xs)) (x ∷ xs)) =
    scan_same n m (drop (header_len (x ∷ xs)) (x ∷ xs)) (omega (arith, length-drop (header_len (x ∷ xs)) (x ∷ xs), header_len-long (x ∷ xs)))
    (omega (arith, length-drop (header_len (x ∷ xs)) (x ∷ xs), header_len-long (x ∷ xs))) in
    rw ih refl

-- too few octets for a header
pub scan_short : (xs : List ℕ) → length xs < 6 → scan (length xs) xs ≡ record { begun = xs; out = []; bad = false }
scan_short [] h = refl
scan_short (x ∷ xs) h = rw (lt-ltb (length (x ∷ xs)) 6 h) refl

pub scan_bad : (xs : List ℕ) → 6 ≤ length xs → header_ok xs ≡ false → scan (length xs) xs ≡ record { begun = []; out = []; bad = true }
scan_bad [] h bad = absurd (omega arith)
scan_bad (x ∷ xs) h bad = rw (le-ltb (length (x ∷ xs)) 6 h, bad) refl

pub scan_held : (xs : List ℕ) → 6 ≤ length xs → header_ok xs ≡ true → length xs < header_len xs → scan (length xs) xs ≡ record { begun = xs; out = []; bad = false }
scan_held [] h ok lt = refl
scan_held (x ∷ xs) h ok lt = rw (le-ltb (length (x ∷ xs)) 6 h, ok, lt-ltb (length (x ∷ xs)) (header_len (x ∷ xs)) lt) refl

pub scan_next : (xs : List ℕ) → 6 ≤ length xs → header_ok xs ≡ true → header_len xs ≤ length xs →
    scan (length xs) xs ≡ emit (take (header_len xs) xs) (scan (length (drop (header_len xs) xs)) (drop (header_len xs) xs))
scan_next [] h ok le = absurd (omega arith)
scan_next (x ∷ xs) h ok le =
    let rest : List ℕ = drop (header_len (x ∷ xs)) (x ∷ xs) in
    let same : scan (length xs) rest ≡ scan (length rest) rest = scan_same (length xs) (length rest) rest (omega (arith, length-drop (header_len (x ∷ xs)) (x ∷ xs), header_len-long (x ∷ xs)))
    (omega arith) in
    rw (le-ltb (length (x ∷ xs)) 6 h, ok, le-ltb (length (x ∷ xs)) (header_len (x ∷ xs)) le) (ap (λ r. emit (take (header_len (x ∷ xs)) (x ∷ xs)) r) same)
