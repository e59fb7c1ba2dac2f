-- The tables of sixteen bits, computed again row by row, and steps by them.
use Rattle.std.proofs.Common.{◌≡◌, ℕ, zero, suc, ◌+◌, ◌*◌, ◌/◌, ◌%◌, ◌^◌, ◌<◌, ◌≤◌, List, [], ◌∷◌, length, map, get_or, take, replicate, refl, sym, ap, ap₂, ◌∙◌, arith}
use Rattle.std.specs.Int.Bits.{bit_xor}
use Rattle.std.proofs.lemmas.Nat.{xor_lt}
use Rattle.std.specs.List.{range_with_len}
use Rattle.std.proofs.lemmas.List.FromFn.{get_or-map-range_with_len, length-range_with_len}
use Rattle.crc.specs.Division.{moved}
use Rattle.crc.specs.Checks.{divisor16, crc16_behind}
use Rattle.crc.proofs.Divisions.{moved_xor, moved_small}
use Rattle.crc.proofs.Powers.{moved_add}
use Rattle.std.proofs.lemmas.List.{get_or-map, length-map, length-take, get_or-take, get_or-replicate}
use Rattle.crc.specs.Mirrors.{in_table}
use lib.Bits.{xor_assoc, xor_shifted}
use Rattle.crc.proofs.Xor.{xor_four, xor_shift}
use Rattle.crc.proofs.Octets.{octet_step, check_none, check_more, check_below}
use Rattle.crc.specs.declared.sixteen_tables.TheConstants.{TABLES}

abbrev M : ℕ → ℕ → ℕ
M k n = moved 16 divisor16 k n

-- ---- the tables: the first of them of each octet, and each other one of that before it
tables_made : map (map (moved 16 divisor16 8)) (map (λ n. n * 2 ^ 8) (range_with_len 0 256) ∷ take 7 TABLES) ≡ TABLES
unfolding moved
tables_made = refl

abbrev pub AreTables16 : List (List ℕ) → Type 0
AreTables16 t = (zeros octet : ℕ) → zeros < 8 → octet < 256 → in_table t zeros octet ≡ M (8 * (zeros + 1)) (octet * 2 ^ 8)

wide : (k : ℕ) → k < 8 → length (get_or TABLES k []) ≡ 256
wide k h =
    let are : map length TABLES ≡ replicate 8 256 = refl in
    let long : length TABLES ≡ 8 = refl in
    sym (get_or-map length TABLES k [] 0 (omega (arith, long))) ∙ ap (λ (l : List ℕ). get_or l k 0) are ∙ get_or-replicate 8 k 256 0 h

pub tables16 : AreTables16 TABLES
tables16 zero n hk hn =
    let row : get_or TABLES 0 [] ≡ map (M 8) (map (λ m. m * 2 ^ 8) (range_with_len 0 256)) = ap (λ (u : List (List ℕ)). get_or u 0 []) (sym tables_made) in
    ap (λ (l : List ℕ). get_or l n 0) row
    ∙ get_or-map (M 8) (map (λ m. m * 2 ^ 8) (range_with_len 0 256)) n 0 0 (omega (arith, length-map (range_with_len 0 256) (λ m. m * 2 ^ 8), length-range_with_len 0 256))
    ∙ ap (M 8) (get_or-map-range_with_len (λ m. m * 2 ^ 8) 0 256 n n 0 hn (omega arith))
tables16 (suc k) n hk hn =
    let long : length TABLES ≡ 8 = refl in
    let few : k < length (take 7 TABLES) = omega (arith, length-take 7 TABLES, long) in
    let row : get_or TABLES (suc k) [] ≡ map (M 8) (get_or TABLES k []) =
    ap (λ (u : List (List ℕ)). get_or u (suc k) []) (sym tables_made)
    ∙ get_or-map (map (M 8)) (take 7 TABLES) k [] [] few
    ∙ ap (map (M 8)) (get_or-take 7 TABLES k [] (omega arith)) in
    ap (λ (l : List ℕ). get_or l n 0) row
    ∙ get_or-map (M 8) (get_or TABLES k []) n 0 0 (omega (arith, wide k (omega arith)))
    ∙ ap (M 8) (tables16 k n (omega arith) hn)
    ∙ sym (moved_add 16 divisor16 (omega arith) (omega arith) 8 (8 * (k + 1)) (n * 2 ^ 8))
    ∙ ap (λ i. M i (n * 2 ^ 8)) (let e : 8 + 8 * (k + 1) ≡ 8 * (suc k + 1) = omega arith in e)

-- one more octet, by the table
pub step16 : (c b p : ℕ) → c < 2 ^ 16 → b < 256 → p ≡ bit_xor (c / 256) b → bit_xor (in_table TABLES 0 p) (c * 256 % 65536) ≡ moved 16 divisor16 8 (bit_xor c (b * 2 ^ 8))
step16 c b p hc hb is =
    let high : c / 256 < 256 = omega arith in
    let small : p < 256 = rw is (xor_lt 8 (c / 256) b high hb) in
    let low : c * 256 % 65536 ≡ c % 256 * 256 = omega arith in
    ap₂ bit_xor (tables16 0 p (omega arith) small) low ∙ sym (octet_step 8 divisor16 (omega arith) (omega arith) c b p hc hb is)

pub none16 : (s : ℕ) → s < 2 ^ 16 → s ≡ crc16_behind s []
unfolding crc16_behind
none16 s h = sym (check_none 8 divisor16 (omega arith) (omega arith) s h)

pub more16 : (s : ℕ) (o : List ℕ) (n b : ℕ) → n < length o → get_or o n 0 ≡ b → b < 256 → moved 16 divisor16 8 (bit_xor (crc16_behind s (take n o)) (b * 2 ^ 8)) ≡ crc16_behind s (take (n + 1) o)
unfolding crc16_behind
more16 s o n b h is small = sym (check_more 8 divisor16 (omega arith) (omega arith) s o n b h is small)

pub below16 : (s : ℕ) (o : List ℕ) → crc16_behind s o < 2 ^ 16
unfolding crc16_behind
below16 s o = check_below 8 divisor16 (omega arith) (omega arith) s o

-- ---- eight octets at once
-- the check with one more octet, moved on by so many bits: the check before, moved on by eight more
-- bits, and what the octet leaves
push : (k m c b : ℕ) → m ≡ k + 8 → c < 2 ^ 16 → b < 256 → M k (M 8 (bit_xor c (b * 2 ^ 8))) ≡ bit_xor (M m c) (M m (b * 2 ^ 8))
push k m c b more hc hb =
    sym (moved_add 16 divisor16 (omega arith) (omega arith) k 8 (bit_xor c (b * 2 ^ 8)))
    ∙ ap (λ i. M i (bit_xor c (b * 2 ^ 8))) (sym more)
    ∙ moved_xor 16 divisor16 (omega arith) (omega arith) m c (b * 2 ^ 8) hc (omega arith)

-- a check moved on by eight octets, with its own two octets by tables
begun : (c : ℕ) → c < 2 ^ 16 → M 64 c ≡ bit_xor (M 64 (c / 2 ^ 8 * 2 ^ 8)) (M 56 (c % 2 ^ 8 * 2 ^ 8))
begun c h =
    let hi : ℕ = c / 2 ^ 8 * 2 ^ 8 in
    let lo : ℕ = c % 2 ^ 8 in
    let split : hi + lo ≡ c = omega arith in
    let cut : c ≡ bit_xor hi lo = sym split ∙ sym (xor_shifted (c / 2 ^ 8) 8 lo (omega arith)) in
    let low : M 64 lo ≡ M 56 (lo * 2 ^ 8) = moved_add 16 divisor16 (omega arith) (omega arith) 56 8 lo ∙ ap (M 56) (moved_small 16 divisor16 (omega arith) (omega arith) 8 lo (omega arith)) in
    ap (M 64) cut ∙ moved_xor 16 divisor16 (omega arith) (omega arith) 64 hi lo (omega arith) (omega arith) ∙ ap (bit_xor (M 64 hi)) low

-- an octet of the check and one of the text, by one table
joined_octet : (k x b p : ℕ) → x < 256 → b < 256 → p ≡ bit_xor x b → M k (p * 2 ^ 8) ≡ bit_xor (M k (x * 2 ^ 8)) (M k (b * 2 ^ 8))
joined_octet k x b p hx hb is =
    ap (λ n. M k (n * 2 ^ 8)) is
    ∙ ap (M k) (sym (xor_shift x b 8))
    ∙ moved_xor 16 divisor16 (omega arith) (omega arith) k (x * 2 ^ 8) (b * 2 ^ 8) (omega arith) (omega arith)

-- the check with one more octet, moved on
goes : (k m s t b : ℕ) → m ≡ k + 8 → s < 2 ^ 16 → b < 256 → M 8 (bit_xor s (b * 2 ^ 8)) ≡ t → M k t ≡ bit_xor (M m s) (M m (b * 2 ^ 8))
goes k m s t b more hs hb is = ap (M k) (sym is) ∙ push k m s b more hs hb

eight16 : (t : List (List ℕ)) (s0 s1 s2 s3 s4 s5 s6 s7 s8 b0 b1 b2 b3 b4 b5 b6 b7 p0 p1 : ℕ) → AreTables16 t
    → s0 < 2 ^ 16 → s1 < 2 ^ 16 → s2 < 2 ^ 16 → s3 < 2 ^ 16 → s4 < 2 ^ 16 → s5 < 2 ^ 16 → s6 < 2 ^ 16 → s7 < 2 ^ 16
    → b0 < 256 → b1 < 256 → b2 < 256 → b3 < 256 → b4 < 256 → b5 < 256 → b6 < 256 → b7 < 256
    → M 8 (bit_xor s0 (b0 * 2 ^ 8)) ≡ s1
    → M 8 (bit_xor s1 (b1 * 2 ^ 8)) ≡ s2
    → M 8 (bit_xor s2 (b2 * 2 ^ 8)) ≡ s3
    → M 8 (bit_xor s3 (b3 * 2 ^ 8)) ≡ s4
    → M 8 (bit_xor s4 (b4 * 2 ^ 8)) ≡ s5
    → M 8 (bit_xor s5 (b5 * 2 ^ 8)) ≡ s6
    → M 8 (bit_xor s6 (b6 * 2 ^ 8)) ≡ s7
    → M 8 (bit_xor s7 (b7 * 2 ^ 8)) ≡ s8
    → p0 ≡ bit_xor (s0 / 2 ^ 8) b0 → p1 ≡ bit_xor (s0 % 2 ^ 8) b1
    → bit_xor (bit_xor (bit_xor (bit_xor (bit_xor (bit_xor (bit_xor (in_table t 7 p0) (in_table t 6 p1)) (in_table t 5 b2)) (in_table t 4 b3)) (in_table t 3 b4)) (in_table t 2 b5)) (in_table t 1 b6)) (in_table t 0 b7) ≡ s8
eight16 t s0 s1 s2 s3 s4 s5 s6 s7 s8 b0 b1 b2 b3 b4 b5 b6 b7 p0 p1 are h0 h1 h2 h3 h4 h5 h6 h7 k0 k1 k2 k3 k4 k5 k6 k7 e0 e1 e2 e3 e4 e5 e6 e7 i0 i1 =
    let hi : ℕ = s0 / 2 ^ 8 in
    let lo : ℕ = s0 % 2 ^ 8 in
    let x0 : hi < 256 = omega arith in
    let x1 : lo < 256 = omega arith in
    let q0 : p0 < 256 = rw i0 (xor_lt 8 hi b0 x0 k0) in
    let q1 : p1 < 256 = rw i1 (xor_lt 8 lo b1 x1 k1) in
    let front : bit_xor (M 64 (p0 * 2 ^ 8)) (M 56 (p1 * 2 ^ 8)) ≡ bit_xor (bit_xor (M 64 s0) (M 64 (b0 * 2 ^ 8))) (M 56 (b1 * 2 ^ 8)) =
    ap₂ bit_xor (joined_octet 64 hi b0 p0 x0 k0 i0) (joined_octet 56 lo b1 p1 x1 k1 i1)
    ∙ xor_four (M 64 (hi * 2 ^ 8)) (M 64 (b0 * 2 ^ 8)) (M 56 (lo * 2 ^ 8)) (M 56 (b1 * 2 ^ 8))
    ∙ sym (xor_assoc (bit_xor (M 64 (hi * 2 ^ 8)) (M 56 (lo * 2 ^ 8))) (M 64 (b0 * 2 ^ 8)) (M 56 (b1 * 2 ^ 8)))
    ∙ ap (λ n. bit_xor (bit_xor n (M 64 (b0 * 2 ^ 8))) (M 56 (b1 * 2 ^ 8))) (sym (begun s0 h0)) in
    let c2 : bit_xor (in_table t 7 p0) (in_table t 6 p1) ≡ M 48 s2 =
    ap₂ bit_xor (are 7 p0 (omega arith) q0) (are 6 p1 (omega arith) q1) ∙ front
    ∙ ap (λ n. bit_xor n (M 56 (b1 * 2 ^ 8))) (sym (goes 56 64 s0 s1 b0 refl h0 k0 e0))
    ∙ sym (goes 48 56 s1 s2 b1 refl h1 k1 e1) in
    let c3 : bit_xor (bit_xor (in_table t 7 p0) (in_table t 6 p1)) (in_table t 5 b2) ≡ M 40 s3 = ap₂ bit_xor c2 (are 5 b2 (omega arith) k2) ∙ sym (goes 40 48 s2 s3 b2 refl h2 k2 e2) in
    let c4 : bit_xor (bit_xor (bit_xor (in_table t 7 p0) (in_table t 6 p1)) (in_table t 5 b2)) (in_table t 4 b3) ≡ M 32 s4 = ap₂ bit_xor c3 (are 4 b3 (omega arith) k3) ∙ sym (goes 32 40 s3 s4 b3 refl h3 k3 e3) in
    let c5 : bit_xor (bit_xor (bit_xor (bit_xor (in_table t 7 p0) (in_table t 6 p1)) (in_table t 5 b2)) (in_table t 4 b3)) (in_table t 3 b4) ≡ M 24 s5 = ap₂ bit_xor c4 (are 3 b4 (omega arith) k4) ∙ sym (goes 24 32 s4 s5 b4 refl h4 k4 e4) in
    let c6 : bit_xor (bit_xor (bit_xor (bit_xor (bit_xor (in_table t 7 p0) (in_table t 6 p1)) (in_table t 5 b2)) (in_table t 4 b3)) (in_table t 3 b4)) (in_table t 2 b5) ≡ M 16 s6 = ap₂ bit_xor c5 (are 2 b5 (omega arith) k5) ∙ sym (goes 16 24 s5 s6 b5 refl h5 k5 e5) in
    let c7 : bit_xor (bit_xor (bit_xor (bit_xor (bit_xor (bit_xor (in_table t 7 p0) (in_table t 6 p1)) (in_table t 5 b2)) (in_table t 4 b3)) (in_table t 3 b4)) (in_table t 2 b5)) (in_table t 1 b6) ≡ M 8 s7 = ap₂ bit_xor c6 (are 1 b6 (omega arith) k6) ∙ sym (goes 8 16 s6 s7 b6 refl h6 k6 e6) in
    ap₂ bit_xor c7 (are 0 b7 (omega arith) k7)
    ∙ sym (moved_xor 16 divisor16 (omega arith) (omega arith) 8 s7 (b7 * 2 ^ 8) h7 (omega arith))
    ∙ e7

-- So many octets are taken, by eights.
pub record IsEights (before : ℕ) (o : List ℕ) (whole place check : ℕ) : Type 0 where
  pub within : place ≤ whole
  pub eights : place % 8 ≡ 0
  pub is : check ≡ crc16_behind before (take place o)

pub eights_more : (t : List (List ℕ)) (before whole place check next p0 p1 p2 p3 p4 p5 p6 p7 : ℕ) (o : List ℕ) → AreTables16 t
    → whole % 8 ≡ 0 → whole ≤ length o → place < whole → ((i : ℕ) → get_or o i 0 < 256)
    → p0 ≡ bit_xor (check / 2 ^ 8) (get_or o place 0) → p1 ≡ bit_xor (check % 2 ^ 8) (get_or o (place + 1) 0)
    → p2 ≡ get_or o (place + 2) 0 → p3 ≡ get_or o (place + 3) 0 → p4 ≡ get_or o (place + 4) 0 → p5 ≡ get_or o (place + 5) 0 → p6 ≡ get_or o (place + 6) 0 → p7 ≡ get_or o (place + 7) 0
    → next ≡ bit_xor (bit_xor (bit_xor (bit_xor (bit_xor (bit_xor (bit_xor (in_table t 7 p0) (in_table t 6 p1)) (in_table t 5 p2)) (in_table t 4 p3)) (in_table t 3 p4)) (in_table t 2 p5)) (in_table t 1 p6)) (in_table t 0 p7)
    → IsEights before o whole place check → IsEights before o whole (place + 8) next
eights_more t before whole place check next p0 p1 p2 p3 p4 p5 p6 p7 o are by inside some bytes i0 i1 i2 i3 i4 i5 i6 i7 is i =
    let at_eight : place % 8 ≡ 0 = i.eights in
    let S : ℕ → ℕ = λ n. crc16_behind before (take (place + n) o) in
    let B : ℕ → ℕ = λ n. get_or o (place + n) 0 in
    let fits : (n : ℕ) → S n < 2 ^ 16 = λ n. below16 before (take (place + n) o) in
    let start : check ≡ S 0 = i.is ∙ ap (λ k. crc16_behind before (take k o)) (let e : place ≡ place + 0 = omega arith in e) in
    let first : get_or o place 0 ≡ B 0 = ap (λ k. get_or o k 0) (let e : place ≡ place + 0 = omega arith in e) in
    let room : (n : ℕ) → n < 8 → place + n < length o = λ n h. omega arith in
    let one : (n : ℕ) → n < 8 → M 8 (bit_xor (S n) (B n * 2 ^ 8)) ≡ S (n + 1) =
    λ n h. more16 before o (place + n) (B n) (room n h) refl (bytes (place + n)) ∙ ap (λ k. crc16_behind before (take k o)) (let e : place + n + 1 ≡ place + (n + 1) = omega arith in e) in
    record {
      within = omega arith;
      eights = omega arith;
      is =
          is
          ∙ rw (i2, i3, i4, i5, i6, i7) refl
          ∙ eight16 t (S 0) (S 1) (S 2) (S 3) (S 4) (S 5) (S 6) (S 7) (S 8) (B 0) (B 1) (B 2) (B 3) (B 4) (B 5) (B 6) (B 7) p0 p1 are
          (fits 0) (fits 1) (fits 2) (fits 3) (fits 4) (fits 5) (fits 6) (fits 7)
          (bytes (place + 0)) (bytes (place + 1)) (bytes (place + 2)) (bytes (place + 3)) (bytes (place + 4)) (bytes (place + 5)) (bytes (place + 6)) (bytes (place + 7))
          (one 0 (omega arith)) (one 1 (omega arith)) (one 2 (omega arith)) (one 3 (omega arith)) (one 4 (omega arith)) (one 5 (omega arith)) (one 6 (omega arith)) (one 7 (omega arith))
          (i0 ∙ ap₂ (λ c b. bit_xor (c / 2 ^ 8) b) start first) (i1 ∙ ap (λ c. bit_xor (c % 2 ^ 8) (B 1)) start);
    }
