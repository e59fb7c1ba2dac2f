-- Exported: sums of octets by their places.
use Rattle.std.proofs.Common.{◌≡◌, ℕ, zero, suc, ◌+◌, ◌-◌, ◌*◌, ◌/◌, ◌%◌, ◌^◌, ◌<◌, ◌≤◌, true, false, cond, leb, ltb, List, [], ◌∷◌, ◌++◌, length, get_or, take, drop, refl, sym, ap, ◌∙◌, arith, length-take, length-drop, take-add, zero-add, add-zero, inl, inr}
use Rattle.std.specs.Prelude.{fold, sum_by, count_by}
use Rattle.std.specs.List.{AllByRecursion}
use Rattle.std.proofs.Common.{add-mul}
use Rattle.std.proofs.Math.Nat.{mul-add}
use Rattle.std.proofs.lemmas.Bool.{cases_lt, le-leb, lt-leb, lt-ltb, le-ltb}
use Rattle.std.specs.Int.{w32, from_be_bytes}
use Rattle.std.specs.Simd.{first_chunks}
use Rattle.std.proofs.lemmas.List.{take_more, take-append-drop, drop-drop, take_all, drop_all}
use Rattle.std.proofs.lemmas.List.Sums.{sum_by-cons, sum_by_more, sum_by-append}
use Rattle.crc.specs.Pieces.{Piece, covers, IsOf, Cuts}
use Rattle.cfdp_directives.specs.Pdu.Checksum.{word_sum, modular_checksum, weight, sum_at, added, sum_of}

pub sum_at-append : (offset : ℕ) (a b : List ℕ) → sum_at offset (a ++ b) ≡ sum_at offset a + sum_at (offset + length a) b
unfolding sum_at
sum_at-append offset [] b = rw add-zero (sym (zero-add (sum_at offset b)))
sum_at-append offset (x ∷ a) b =
    let ih = sum_at-append (offset + 1) a b in
    let place : offset + 1 + length a ≡ offset + suc (length a) = omega arith in
    let ih' : sum_at (offset + 1) (a ++ b) ≡ sum_at (offset + 1) a + sum_at (offset + suc (length a)) b = rw place at ih in
    omega (arith, ih')

-- ---- one more octet

four : (p : ℕ) → p < 4 → 2 ^ (8 * (3 - p)) ≡ 256 ^ (3 - p)
four zero h = refl
four (suc zero) h = refl
four (suc (suc zero)) h = refl
four (suc (suc (suc zero))) h = refl
four (suc (suc (suc (suc p)))) h = absurd (omega arith)

pub none : (offset : ℕ) → sum_at offset [] ≡ 0
unfolding sum_at
none offset = refl

pub one_more : (old offset i sum place b m : ℕ) (bytes : List ℕ) → i < length bytes → place ≡ (offset + i) % 4 → sum ≡ (old + sum_at offset (take i bytes)) % 2 ^ 32 → b ≡ get_or bytes i 0 → m
    ≡ b * 2 ^ (8 * (3 - place))
    → (sum + m % 2 ^ 32) % 2 ^ 32 ≡ (old + sum_at offset (take (i + 1) bytes)) % 2 ^ 32
unfolding sum_at
one_more old offset i sum place b m bytes h p e is k =
    let front = take i bytes in
    let len : length front ≡ i = omega (arith, length-take i bytes) in
    let cut : take (i + 1) bytes ≡ front ++ b ∷ [] = rw is (take_more bytes i 0 h) in
    let more : sum_at offset (front ++ b ∷ []) ≡ sum_at offset front + (b * weight (offset + i) + 0) = rw (sum_at-append offset front (b ∷ []), len) refl in
    let w : m ≡ b * weight (offset + i) = rw (k, p) (ap (λ (x : ℕ). b * x) (four ((offset + i) % 4) (omega arith))) in
    let whole : sum_at offset (take (i + 1) bytes) ≡ sum_at offset front + m = rw (cut, more) (omega (arith, w)) in
    rw (e, whole) (omega arith)

-- ---- four octets at once

-- four places on, octets count the same
pub again : (offset n : ℕ) (bytes : List ℕ) → sum_at (4 * n + offset) bytes ≡ sum_at offset bytes
unfolding sum_at
again offset n [] = refl
again offset n (b ∷ bytes) =
    let here : (4 * n + offset) % 4 ≡ offset % 4 = omega arith in
    let next : 4 * n + offset + 1 ≡ 4 * n + (offset + 1) = omega arith in
    rw (here, next, again (offset + 1) n bytes) refl

-- a word counts as its octets
pub one_word : (word : List ℕ) → length word ≡ 4 → sum_at 0 word ≡ from_be_bytes w32 word
unfolding sum_at
one_word [] h = absurd (omega arith)
one_word (a ∷ []) h = absurd (omega arith)
one_word (a ∷ b ∷ []) h = absurd (omega arith)
one_word (a ∷ b ∷ c ∷ []) h = absurd (omega arith)
one_word (a ∷ b ∷ c ∷ d ∷ []) h = omega arith
one_word (a ∷ b ∷ c ∷ d ∷ e ∷ word) h = absurd (omega arith)

abbrev words_sum : List (List ℕ) → ℕ
words_sum words = sum_by (λ word. sum_at 0 word) words

-- one more word
pub word_more : (old i sum m : ℕ) (words : List (List ℕ)) → i < length words → sum ≡ (old + words_sum (take i words)) % 2 ^ 32 → length (get_or words i []) ≡ 4 → m
    ≡ from_be_bytes w32 (get_or words i [])
    → (sum + m) % 2 ^ 32 ≡ (old + words_sum (take (i + 1) words)) % 2 ^ 32
word_more old i sum m words h e four k =
    let cut : words_sum (take (i + 1) words) ≡ words_sum (take i words) + sum_at 0 (get_or words i []) = sum_by_more (λ (w : List ℕ). sum_at 0 w) words i [] h in
    let same : sum_at 0 (get_or words i []) ≡ m = one_word (get_or words i []) four ∙ sym k in
    rw (e, cut, same) (omega arith)

-- whole chunks of words, and the octets after them
pub cut_chunks : (n m k : ℕ) (bytes : List ℕ) → n ≡ 4 * m → k * n ≤ length bytes → sum_at 0 bytes ≡ words_sum (first_chunks n k bytes) + sum_at 0 (drop (k * n) bytes)
cut_chunks n m zero bytes e h =
    let start : zero * n ≡ 0 = omega arith in
    rw start (sym (zero-add (sum_at 0 bytes)))
cut_chunks n m (suc k) bytes e h =
    let more : n + k * n ≡ suc k * n = omega arith in
    let front = take n bytes in
    let back = drop n bytes in
    let len : length front ≡ n = omega (arith, length-take n bytes) in
    let whole : front ++ back ≡ bytes = take-append-drop n bytes in
    let joined : sum_at 0 (front ++ back) ≡ sum_at 0 front + sum_at (0 + length front) back = sum_at-append 0 front back in
    let far : 0 + length front ≡ 4 * m + 0 = omega arith in
    let place : sum_at (0 + length front) back ≡ sum_at 0 back = rw far (again 0 m back) in
    let ih = cut_chunks n m k back e (omega (arith, length-drop n bytes)) in
    let first : words_sum (first_chunks n (suc k) bytes) ≡ sum_at 0 front + words_sum (first_chunks n k back) = sum_by-cons (λ (word : List ℕ). sum_at 0 word) front (first_chunks n k back) in
    let rest : drop (k * n) back ≡ drop (suc k * n) bytes = drop-drop (k * n) n bytes ∙ ap (λ (j : ℕ). drop j bytes) more in
    let behind : sum_at 0 (drop (k * n) back) ≡ sum_at 0 (drop (suc k * n) bytes) = ap (sum_at 0) rest in
    sym (ap (sum_at 0) whole) ∙ omega (arith, joined, place, ih, first, behind)

-- more blocks
pub run_more : (old at end sum more : ℕ) (blocks : List (List ℕ)) → at ≤ end → sum ≡ (old + words_sum (take at blocks)) % 2 ^ 32
    → more ≡ (sum + words_sum (take (end - at) (drop at blocks))) % 2 ^ 32 → more ≡ (old + words_sum (take end blocks)) % 2 ^ 32
run_more old at end sum more blocks h e k =
    let size : at + (end - at) ≡ end = omega arith in
    let cut : take end blocks ≡ take at blocks ++ take (end - at) (drop at blocks) = ap (λ (n : ℕ). take n blocks) (sym size) ∙ take-add at (end - at) blocks in
    let both : words_sum (take end blocks) ≡ words_sum (take at blocks) + words_sum (take (end - at) (drop at blocks)) =
    ap (λ (bs : List (List ℕ)). words_sum bs) cut ∙ sum_by-append (λ (w : List ℕ). sum_at 0 w) (take at blocks) (take (end - at) (drop at blocks)) in
    omega (arith, e, k, both)

-- blocks or words, and the octets after them
pub by_blocks : (k : ℕ) (bytes : List ℕ) → k * 16 ≤ length bytes → words_sum (first_chunks 16 k bytes) + sum_at 0 (drop (k * 16) bytes) ≡ sum_at 0 bytes
by_blocks k bytes h = sym (cut_chunks 16 4 k bytes refl h)

pub by_words : (k : ℕ) (bytes : List ℕ) → k * 4 ≤ length bytes → words_sum (first_chunks 4 k bytes) + sum_at 0 (drop (k * 4) bytes) ≡ sum_at 0 bytes
by_words k bytes h = sym (cut_chunks 4 1 k bytes refl h)

-- octets up to where a word begins, or up to the end, and the octets after them
cut_front : (offset n : ℕ) (bytes : List ℕ) → (offset + n) % 4 ≡ 0 → n ≤ length bytes → sum_at offset bytes ≡ sum_at offset (take n bytes) + sum_at 0 (drop n bytes)
cut_front offset n bytes at h =
    let front = take n bytes in
    let back = drop n bytes in
    let len : length front ≡ n = omega (arith, length-take n bytes) in
    let joined : sum_at offset (front ++ back) ≡ sum_at offset front + sum_at (offset + length front) back = sum_at-append offset front back in
    let k : ℕ = (offset + n) / 4 in
    let place : offset + length front ≡ 4 * k + 0 = omega (arith, len, at) in
    let moved : sum_at (offset + length front) back ≡ sum_at 0 back = rw place (again 0 k back) in
    sym (ap (sum_at offset) (take-append-drop n bytes)) ∙ omega (arith, joined, moved)

cut_all : (offset n : ℕ) (bytes : List ℕ) → length bytes ≤ n → sum_at offset bytes ≡ sum_at offset (take n bytes) + sum_at 0 (drop n bytes)
unfolding sum_at
cut_all offset n bytes h = rw (take_all n bytes h, drop_all n bytes h) (sym (add-zero (sum_at offset bytes)))

pub from_a_word : (offset n : ℕ) (bytes : List ℕ) → (n < length bytes → (offset + n) % 4 ≡ 0) → sum_at offset (take n bytes) + sum_at 0 (drop n bytes) ≡ sum_at offset bytes
from_a_word offset n bytes at =
    elim (cases_lt n (length bytes)) [
      | inl h ↦ sym (cut_front offset n bytes (at h) (omega arith))
      | inr h ↦ sym (cut_all offset n bytes h)
    ]

-- ---- counted

-- the sum of octets that each count so often
weighted : (ℕ → ℕ) → ℕ → List ℕ → ℕ
weighted c o [] = 0
weighted c o (b ∷ bytes) = c o * (b * weight o) + weighted c (o + 1) bytes

weighted-plus : (c d : ℕ → ℕ) (o : ℕ) (bytes : List ℕ) → weighted (λ n. c n + d n) o bytes ≡ weighted c o bytes + weighted d o bytes
unfolding weighted
weighted-plus c d o [] = refl
weighted-plus c d o (b ∷ bytes) =
    let ih = weighted-plus c d (o + 1) bytes in
    let m : (c o + d o) * (b * weight o) ≡ c o * (b * weight o) + d o * (b * weight o) = add-mul (c o) (d o) (b * weight o) in
    omega (arith, ih, m)

weighted-append : (c : ℕ → ℕ) (o : ℕ) (a b : List ℕ) → weighted c o (a ++ b) ≡ weighted c o a + weighted c (o + length a) b
unfolding weighted
weighted-append c o [] b = rw add-zero (sym (zero-add (weighted c o b)))
weighted-append c o (x ∷ a) b =
    let place : o + 1 + length a ≡ o + suc (length a) = omega arith in
    let ih : weighted c (o + 1) (a ++ b) ≡ weighted c (o + 1) a + weighted c (o + suc (length a)) b = rw place at (weighted-append c (o + 1) a b) in
    omega (arith, ih)

-- each octet counts as often
weighted_const : (c : ℕ → ℕ) (k o : ℕ) (bytes : List ℕ) → ((n : ℕ) → o ≤ n → n < o + length bytes → c n ≡ k) → weighted c o bytes ≡ k * sum_at o bytes
unfolding weighted sum_at
weighted_const c k o [] h = omega arith
weighted_const c k o (b ∷ bytes) h =
    let ih = weighted_const c k (o + 1) bytes (λ n le lt. h n (omega arith) (omega arith)) in
    let here : c o ≡ k = h o (omega arith) (omega arith) in
    let m : k * (b * weight o + sum_at (o + 1) bytes) ≡ k * (b * weight o) + k * sum_at (o + 1) bytes = mul-add k (b * weight o) (sum_at (o + 1) bytes) in
    rw (here, ih, m) refl

weighted-same : (c d : ℕ → ℕ) (o : ℕ) (bytes : List ℕ) → ((n : ℕ) → c n ≡ d n) → weighted c o bytes ≡ weighted d o bytes
unfolding weighted
weighted-same c d o [] h = refl
weighted-same c d o (b ∷ bytes) h = rw (h o, weighted-same c d (o + 1) bytes h) refl

abbrev mark : Piece → ℕ → ℕ
mark p n = cond (covers n p) 1 0

below : (p : Piece) (n : ℕ) → n < p.offset → mark p n ≡ 0
below p n h = let t : leb p.offset n ≡ false = lt-leb p.offset n h in rw t refl

above : (p : Piece) (n : ℕ) → p.offset + length p.bytes ≤ n → mark p n ≡ 0
above p n h =
    let t : leb p.offset n ≡ true = le-leb p.offset n (omega arith) in
    let u : ltb n (p.offset + length p.bytes) ≡ false = le-ltb _ _ h in
    rw (t, u) refl

inside : (p : Piece) (n : ℕ) → p.offset ≤ n → n < p.offset + length p.bytes → mark p n ≡ 1
inside p n h k =
    let t : leb p.offset n ≡ true = le-leb p.offset n h in
    let u : ltb n (p.offset + length p.bytes) ≡ true = lt-ltb _ _ k in
    rw (t, u) refl

-- a piece is the octets of the file that it covers
one_piece : (file : List ℕ) (p : Piece) → IsOf file p → weighted (mark p) 0 file ≡ sum_at p.offset p.bytes
one_piece file p h =
    let n = length p.bytes in
    let front = take p.offset file in
    let back = drop n (drop p.offset file) in
    let within = h.within in
    let lf : length front ≡ p.offset = omega (arith, length-take p.offset file) in
    let cut : file ≡ front ++ (p.bytes ++ back) = sym (ap (λ (x : List ℕ). front ++ (x ++ back)) h.same ∙ ap (λ (x : List ℕ). front ++ x) (take-append-drop n (drop p.offset file))
    ∙ take-append-drop p.offset file) in
    let one = weighted-append (mark p) 0 front (p.bytes ++ back) in
    let two = weighted-append (mark p) (0 + length front) p.bytes back in
    let a = weighted_const (mark p) 0 0 front (λ k le lt. below p k (omega arith)) in
    let b = weighted_const (mark p) 1 (0 + length front) p.bytes (λ k le lt. inside p k (omega arith) (omega arith)) in
    let c = weighted_const (mark p) 0 (0 + length front + n) back (λ k le lt. above p k (omega arith)) in
    let place : sum_at (0 + length front) p.bytes ≡ sum_at p.offset p.bytes = rw (zero-add, lf) refl in
    let all : weighted (mark p) 0 (front ++ (p.bytes ++ back)) ≡ sum_at p.offset p.bytes = omega (arith, one, two, a, b, c, place) in
    ap (weighted (mark p) 0) cut ∙ all

abbrev total : List Piece → ℕ
total pieces = sum_by (λ p. sum_at p.offset p.bytes) pieces

all_pieces : (file : List ℕ) (ps : List Piece) → AllByRecursion (IsOf file) ps → total ps ≡ weighted (λ n. count_by (covers n) ps) 0 file
all_pieces file [] h = sym (weighted_const (λ n. 0) 0 0 file (λ n le lt. refl) ∙ omega arith)
all_pieces file (p ∷ ps) h =
    let ih = all_pieces file ps h.1 in
    let one = one_piece file p h.0 in
    let split = weighted-plus (mark p) (λ n. count_by (covers n) ps) 0 file in
    let joined : weighted (λ n. count_by (covers n) (p ∷ ps)) 0 file ≡ weighted (λ n. mark p n + count_by (covers n) ps) 0 file =
    weighted-same _ _ 0 file (λ n. sum_by-cons (λ q. cond (covers n q) 1 0) p ps) in
    let first : total (p ∷ ps) ≡ sum_at p.offset p.bytes + total ps = sum_by-cons (λ q. sum_at q.offset q.bytes) p ps in
    omega (arith, ih, one, split, joined, first)

folds : (s : ℕ) (ps : List Piece) → fold added (s % 2 ^ 32) ps ≡ (s + total ps) % 2 ^ 32
folds s [] = omega arith
folds s (p ∷ ps) =
    let x : ℕ = sum_at p.offset p.bytes in
    let step : (s % 2 ^ 32 + x) % 2 ^ 32 ≡ (s + x) % 2 ^ 32 = omega arith in
    let first : total (p ∷ ps) ≡ x + total ps = sum_by-cons (λ q. sum_at q.offset q.bytes) p ps in
    let ih = folds (s + x) ps in
    let there : fold added ((s % 2 ^ 32 + x) % 2 ^ 32) ps ≡ (s + x + total ps) % 2 ^ 32 = rw (← step) at ih in
    there ∙ omega (arith, first)

-- ---- words

-- octets by their places are the words that they fill
words : (n : ℕ) (file : List ℕ) → sum_at (4 * n) file ≡ word_sum file
unfolding sum_at word_sum
words n [] = refl
words n (a ∷ []) = let p0 : 4 * n % 4 ≡ 0 = omega arith in rw p0 (omega arith)
words n (a ∷ b ∷ []) =
    let p0 : 4 * n % 4 ≡ 0 = omega arith in
    let p1 : (4 * n + 1) % 4 ≡ 1 = omega arith in
    rw (p0, p1) (omega arith)
words n (a ∷ b ∷ c ∷ []) =
    let p0 : 4 * n % 4 ≡ 0 = omega arith in
    let p1 : (4 * n + 1) % 4 ≡ 1 = omega arith in
    let p2 : (4 * n + 1 + 1) % 4 ≡ 2 = omega arith in
    rw (p0, p1, p2) (omega arith)
words n (a ∷ b ∷ c ∷ d ∷ rest) =
    let p0 : 4 * n % 4 ≡ 0 = omega arith in
    let p1 : (4 * n + 1) % 4 ≡ 1 = omega arith in
    let p2 : (4 * n + 1 + 1) % 4 ≡ 2 = omega arith in
    let p3 : (4 * n + 1 + 1 + 1) % 4 ≡ 3 = omega arith in
    let next : 4 * n + 1 + 1 + 1 + 1 ≡ 4 * (n + 1) = omega arith in
    rw (p0, p1, p2, p3, next, words (n + 1) rest) (omega arith)

pub whole_words : (file : List ℕ) → sum_at 0 file ≡ word_sum file
whole_words file = words 0 file

-- however a file is cut, its pieces add up to its checksum
pub any_order : (file : List ℕ) (pieces : List Piece) → Cuts file pieces → sum_of pieces ≡ modular_checksum file
any_order file pieces cuts =
    let counted = all_pieces file pieces cuts.parts in
    let once = weighted_const (λ n. count_by (covers n) pieces) 1 0 file (λ n le lt. cuts.once n (omega arith)) in
    let whole : total pieces ≡ word_sum file = omega (arith, counted, once, whole_words file) in
    folds 0 pieces ∙ rw whole (omega arith)

-- a file in one piece
pub at_once : (file : List ℕ) → added 0 (record { offset = 0; bytes = file }) ≡ modular_checksum file
at_once file = rw (whole_words file) (omega arith)
