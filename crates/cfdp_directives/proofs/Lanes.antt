-- Sums of octets by lanes of sixteen bits.
use Rattle.std.proofs.Common.{◌≡◌, ℕ, suc, ◌+◌, ◌-◌, ◌*◌, ◌/◌, ◌%◌, ◌^◌, ◌<◌, ◌≤◌, List, [], ◌∷◌, length, get_or, take, drop, replicate, refl, ap, subst, ◌∙◌, arith, length-take, length-drop, w8, Fits}
use Rattle.std.specs.Prelude.{sum_by}
use Rattle.std.proofs.lemmas.List.{get_or-drop, drop-drop, drop_all, take_all}
use Rattle.std.proofs.lemmas.List.Sums.{sum_by-cons, sum_by_more}
use Rattle.std.proofs.lemmas.Simd.{get_or_wider, get_or-zip2, get_or-replicate, length-replicate, length-zip2, Each1-get_or, below_from_Fits}
use lib.Lanes.{zip2, Each1, number_l, digits_l}
use Rattle.cfdp_directives.specs.Pdu.Checksum.{sum_at, lane_sum}
use Rattle.cfdp_directives.proofs.Sums.{again, none}

-- ---- operations, lane by lane

two : (ys : List ℕ) → 2 ≤ length ys → number_l 256 (take 2 ys) ≡ get_or ys 0 0 + 256 * get_or ys 1 0
two [] h = absurd (omega arith)
two (a ∷ []) h = absurd (omega arith)
two (a ∷ b ∷ ys) h = omega arith

abbrev pub IsLane : List ℕ → ℕ → ℕ → Type 0
IsLane block j lane = (lane ≡ get_or block (2 * j) 0 + 256 * get_or block (2 * j + 1) 0) × (get_or block (2 * j) 0 < 256) × (get_or block (2 * j + 1) 0 < 256)

pub lane_is : (block : List ℕ) → length block ≡ 16 → Each1 (Fits w8) block → (j : ℕ) → j < 8 → IsLane block j (get_or (digits_l 65536 8 (number_l 256 block)) j 0)
lane_is block long fit j h =
    let wide = get_or_wider 256 2 65536 8 block j refl (below_from_Fits w8 block fit) h in
    let pair = two (drop (2 * j) block) (omega (arith, length-drop (2 * j) block)) in
    let first : get_or (drop (2 * j) block) 0 0 ≡ get_or block (2 * j) 0 = get_or-drop (2 * j) block 0 0 ∙ ap (λ (n : ℕ). get_or block n 0) (omega arith) in
    let second : get_or (drop (2 * j) block) 1 0 ≡ get_or block (2 * j + 1) 0 = get_or-drop (2 * j) block 1 0 in
    let is : get_or (digits_l 65536 8 (number_l 256 block)) j 0 ≡ get_or block (2 * j) 0 + 256 * get_or block (2 * j + 1) 0 = wide ∙ pair ∙ rw (first, second) refl in
    (is, (Each1-get_or (Fits w8) block (2 * j) 0 (omega arith) fit).fits, (Each1-get_or (Fits w8) block (2 * j + 1) 0 (omega arith) fit).fits)

pub plus_at : (a b : List ℕ) → length a ≡ 8 → length b ≡ 8 → (j : ℕ) → j < 8 → get_or (zip2 (λ (x y : ℕ). (x + y) % 65536) a b) j 0 ≡ (get_or a j 0 + get_or b j 0) % 65536
plus_at a b la lb j h = get_or-zip2 (λ (x y : ℕ). (x + y) % 65536) a b j 0 0 0 (omega arith) (omega arith)

pub high_at : (a : List ℕ) → length a ≡ 8 → (j : ℕ) → j < 8 → get_or (zip2 (λ (x y : ℕ). x / 2 ^ y) a (replicate 8 8)) j 0 ≡ get_or a j 0 / 256
high_at a la j h =
    get_or-zip2 (λ (x y : ℕ). x / 2 ^ y) a (replicate 8 8) j 0 0 0 (omega arith) (omega (arith, length-replicate {A = ℕ} 8 8))
    ∙ ap (λ (y : ℕ). get_or a j 0 / 2 ^ y) (get_or-replicate {A = ℕ} 8 j 8 0 h)

abbrev times : ℕ → ℕ → ℕ
times x y = x * y % 65536

abbrev less : ℕ → ℕ → ℕ
less x y = (x + (65536 - y)) % 65536

less_is : (x y : ℕ) → x < 65536 → (less x (times y 256) + 256 * y) % 65536 ≡ x
less_is x y h = omega arith

abbrev pub IsRest : ℕ → ℕ → ℕ → Type 0
IsRest all odd even = ((even + 256 * odd) % 65536 ≡ all) × (even < 65536)

pub less_at : (a b : List ℕ) → length a ≡ 8 → length b ≡ 8 → (j : ℕ) → j < 8 → get_or a j 0 < 65536
    → IsRest (get_or a j 0) (get_or b j 0) (get_or (zip2 less a (zip2 times b (replicate 8 256))) j 0)
less_at a b la lb j h fit =
    let lm : length (zip2 times b (replicate 8 256)) ≡ 8 = length-zip2 times b (replicate 8 256) (omega (arith, length-replicate {A = ℕ} 8 256)) ∙ lb in
    let product : get_or (zip2 times b (replicate 8 256)) j 0 ≡ times (get_or b j 0) 256 =
    get_or-zip2 times b (replicate 8 256) j 0 0 0 (omega arith) (omega (arith, length-replicate {A = ℕ} 8 256))
    ∙ ap (λ (y : ℕ). times (get_or b j 0) y) (get_or-replicate {A = ℕ} 8 j 256 0 h) in
    let is : get_or (zip2 less a (zip2 times b (replicate 8 256))) j 0 ≡ less (get_or a j 0) (times (get_or b j 0) 256) =
    get_or-zip2 less a (zip2 times b (replicate 8 256)) j 0 0 0 (omega arith) (omega arith)
    ∙ ap (λ (y : ℕ). less (get_or a j 0) y) product in
    rw is (less_is (get_or a j 0) (get_or b j 0) fit, omega arith)

-- ---- sums of blocks, at each place of a block

abbrev pub column : ℕ → List (List ℕ) → ℕ
column k blocks = sum_by (λ block. get_or block k 0) blocks

-- what two lanes are after so many blocks
abbrev pub AreSums : List (List ℕ) → ℕ → ℕ → ℕ → Type 0
AreSums blocks j all odd =
    (all ≡ (column (2 * j) blocks + 256 * column (2 * j + 1) blocks) % 65536) × (odd ≡ column (2 * j + 1) blocks)
    × (column (2 * j) blocks ≤ 255 * length blocks) × (column (2 * j + 1) blocks ≤ 255 * length blocks)

pub one_block : (blocks : List (List ℕ)) (i j all odd lane high all' odd' : ℕ) → i < length blocks → length blocks ≤ 256 → AreSums (take i blocks) j all odd
    → IsLane (get_or blocks i []) j lane → high ≡ lane / 256 → all' ≡ (all + lane) % 65536 → odd' ≡ (odd + high) % 65536 → AreSums (take (i + 1) blocks) j all' odd'
one_block blocks i j all odd lane high all' odd' h few (a, o, be, bo) (l, fe, fo) up e f =
    let first = sum_by_more (λ (block : List ℕ). get_or block (2 * j) 0) blocks i [] h in
    let second = sum_by_more (λ (block : List ℕ). get_or block (2 * j + 1) 0) blocks i [] h in
    let short : length (take i blocks) ≡ i = omega (arith, length-take i blocks) in
    let longer : length (take (i + 1) blocks) ≡ i + 1 = omega (arith, length-take (i + 1) blocks) in
    (omega (arith, first, second), omega (arith, first, second, short), omega (arith, first, short, longer), omega (arith, second, short, longer))

even_is : (blocks : List (List ℕ)) (j all odd even : ℕ) → length blocks ≤ 256 → AreSums blocks j all odd → IsRest all odd even → even ≡ column (2 * j) blocks
even_is blocks j all odd even few (a, o, be, bo) (rest, small) = omega arith

pub last_lanes : (blocks : List (List ℕ)) (i : ℕ) (all odd even : List ℕ) → length blocks ≤ i → length blocks ≤ 256
    → ((j : ℕ) → j < 8 → AreSums (take i blocks) j (get_or all j 0) (get_or odd j 0))
    → ((j : ℕ) → j < 8 → IsRest (get_or all j 0) (get_or odd j 0) (get_or even j 0))
    → (j : ℕ) → j < 8 → (get_or even j 0 ≡ column (2 * j) blocks) × (get_or odd j 0 ≡ column (2 * j + 1) blocks)
last_lanes blocks i all odd even done few sums rests j h =
    let are : AreSums blocks j (get_or all j 0) (get_or odd j 0) = subst (λ bs. AreSums bs j (get_or all j 0) (get_or odd j 0)) (take_all i blocks done) (sums j h) in
    (even_is blocks j (get_or all j 0) (get_or odd j 0) (get_or even j 0) few are (rests j h), are.1)

-- ---- a block is four words

abbrev word_at : List ℕ → ℕ → ℕ
word_at b n = get_or b n 0 * 256 ^ 3 + get_or b (n + 1) 0 * 256 ^ 2 + get_or b (n + 2) 0 * 256 + get_or b (n + 3) 0

on : (b : List ℕ) → sum_at 4 b ≡ sum_at 0 b
on b = again 0 1 b

word_off : (b : List ℕ) → 4 ≤ length b → sum_at 0 b ≡ word_at b 0 + sum_at 0 (drop 4 b)
unfolding sum_at
word_off [] h = absurd (omega arith)
word_off (p ∷ []) h = absurd (omega arith)
word_off (p ∷ q ∷ []) h = absurd (omega arith)
word_off (p ∷ q ∷ r ∷ []) h = absurd (omega arith)
word_off (p ∷ q ∷ r ∷ s ∷ b) h = omega (arith, on b)

word_from : (n : ℕ) (b : List ℕ) → n + 4 ≤ length b → sum_at 0 (drop n b) ≡ word_at b n + sum_at 0 (drop (n + 4) b)
word_from n b h =
    let off = word_off (drop n b) (omega (arith, length-drop n b)) in
    let zeroth : get_or (drop n b) 0 0 ≡ get_or b n 0 = get_or-drop n b 0 0 ∙ ap (λ (k : ℕ). get_or b k 0) (omega arith) in
    let rest : sum_at 0 (drop 4 (drop n b)) ≡ sum_at 0 (drop (n + 4) b) = ap (sum_at 0) (drop-drop 4 n b) in
    omega (arith, off, zeroth, get_or-drop n b 1 0, get_or-drop n b 2 0, get_or-drop n b 3 0, rest)

block_is : (b : List ℕ) → length b ≡ 16 → sum_at 0 b ≡ word_at b 0 + word_at b 4 + word_at b 8 + word_at b 12
block_is b h =
    let end : sum_at 0 (drop 16 b) ≡ 0 = ap (sum_at 0) (drop_all 16 b (omega arith)) ∙ none 0 in
    omega (arith, word_from 0 b (omega arith), word_from 4 b (omega arith), word_from 8 b (omega arith), word_from 12 b (omega arith), end)

abbrev columns : List (List ℕ) → ℕ → ℕ
columns blocks n = column n blocks * 256 ^ 3 + column (n + 1) blocks * 256 ^ 2 + column (n + 2) blocks * 256 + column (n + 3) blocks

cons_word : (n : ℕ) (b : List ℕ) (bs : List (List ℕ)) → columns (b ∷ bs) n ≡ word_at b n + columns bs n
cons_word n b bs =
    let at : (k : ℕ) → column k (b ∷ bs) ≡ get_or b k 0 + column k bs = λ k. sum_by-cons (λ (block : List ℕ). get_or block k 0) b bs in
    omega (arith, at n, at (n + 1), at (n + 2), at (n + 3))

blocks_are : (bs : List (List ℕ)) → ((i : ℕ) → i < length bs → length (get_or bs i []) ≡ 16) → sum_by (λ b. sum_at 0 b) bs ≡ columns bs 0 + columns bs 4 + columns bs 8 + columns bs 12
blocks_are [] h = refl
blocks_are (b ∷ bs) h =
    let ih = blocks_are bs (λ i lt. h (suc i) (omega arith)) in
    let head = block_is b (h 0 (omega arith)) in
    let first : sum_by (λ block. sum_at 0 block) (b ∷ bs) ≡ sum_at 0 b + sum_by (λ block. sum_at 0 block) bs = sum_by-cons (λ (block : List ℕ). sum_at 0 block) b bs in
    omega (arith, ih, head, first, cons_word 0 b bs, cons_word 4 b bs, cons_word 8 b bs, cons_word 12 b bs)

-- the lanes of all blocks add up to what the blocks add
pub lanes_are : (blocks : List (List ℕ)) (even odd : List ℕ) → ((i : ℕ) → i < length blocks → length (get_or blocks i []) ≡ 16)
    → ((j : ℕ) → j < 8 → (get_or even j 0 ≡ column (2 * j) blocks) × (get_or odd j 0 ≡ column (2 * j + 1) blocks))
    → lane_sum even odd 0 + lane_sum even odd 2 + lane_sum even odd 4 + lane_sum even odd 6 ≡ sum_by (λ b. sum_at 0 b) blocks
lanes_are blocks even odd long lanes =
    let e : (j : ℕ) → j < 8 → get_or even j 0 ≡ column (2 * j) blocks = λ j h. (lanes j h).0 in
    let o : (j : ℕ) → j < 8 → get_or odd j 0 ≡ column (2 * j + 1) blocks = λ j h. (lanes j h).1 in
    let all = blocks_are blocks long in
    let f0 = e 0 (omega arith) in let f1 = e 1 (omega arith) in let f2 = e 2 (omega arith) in let f3 = e 3 (omega arith) in
    let f4 = e 4 (omega arith) in let f5 = e 5 (omega arith) in let f6 = e 6 (omega arith) in let f7 = e 7 (omega arith) in
    let g0 = o 0 (omega arith) in let g1 = o 1 (omega arith) in let g2 = o 2 (omega arith) in let g3 = o 3 (omega arith) in
    let g4 = o 4 (omega arith) in let g5 = o 5 (omega arith) in let g6 = o 6 (omega arith) in let g7 = o 7 (omega arith) in
    omega (arith, all, f0, f1, f2, f3, f4, f5, f6, f7, g0, g1, g2, g3, g4, g5, g6, g7)
