-- Laws of the division: it keeps sums, and goes on digit by digit.
use Rattle.std.proofs.Common.{◌≡◌, ℕ, zero, suc, ◌+◌, ◌-◌, ◌*◌, ◌/◌, ◌%◌, ◌^◌, ◌<◌, ◌≤◌, ◌⊎◌, inl, inr, ⊎_elim, mul_assoc, refl, sym, ap, ap₂, ◌∙◌, arith, add-one}
use Rattle.std.specs.Int.Bits.{bit_xor, xor_self, xor_zero_r}
use Rattle.std.proofs.lemmas.Nat.{xor_comm, xor_block, xor_lt, xor_shr, xor_mod, pow_pos, shr_high, div_below}
use Rattle.std.proofs.lemmas.Grind.{pow_more}
use Rattle.std.proofs.Math.Pow.{pow_mono}
use lib.Bits.{xor_assoc}
use Rattle.std.proofs.lemmas.Bool.{cases_lt}
use Rattle.crc.specs.Division.{reduced, remainder, moved, times, IsLeft}
use Rattle.crc.proofs.Xor.{xor_four, xor_digit, double_xor}

pub digit : (n : ℕ) → n < 2 → (n ≡ 0) ⊎ (n ≡ 1)
digit zero h = inl refl
digit (suc zero) h = inr refl
digit (suc (suc n)) h = absurd (omega arith)

-- a product of digits' sum
digits_times : (s t g : ℕ) → s < 2 → t < 2 → bit_xor s t * g ≡ bit_xor (s * g) (t * g)
digits_times s t g hs ht = elim (digit s hs) [
  | inl a ↦ let none : 0 * g ≡ 0 = omega arith in rw (a, none) refl
  | inr a ↦ elim (digit t ht) [
    | inl b ↦ let none : 0 * g ≡ 0 = omega arith in let one : 1 * g ≡ g = omega arith in rw (a, b, none, one) (sym (xor_zero_r g))
    | inr b ↦ let none : 0 * g ≡ 0 = omega arith in let one : 1 * g ≡ g = omega arith in rw (a, b, none, one) (sym (xor_self g))
  ]
]

module _ (d g : ℕ) (least : 2 ^ d ≤ g) (most : g < 2 ^ (d + 1)) where
  top_below : (n : ℕ) → n < 2 ^ (d + 1) → n / 2 ^ d < 2
  top_below n h = div_below n (2 ^ d) 2 (pow_pos d) (omega (arith, pow_more 2 d))

  pub reduced_small : (n : ℕ) → n < 2 ^ d → reduced d g n ≡ n
  reduced_small n h =
      let e : n ≡ 0 * 2 ^ d + n = omega arith in
      let top : n / 2 ^ d ≡ 0 = ap (λ m. m / 2 ^ d) e ∙ shr_high 0 d n h in
      let none : 0 * g ≡ 0 = omega arith in
      ap (λ t. bit_xor n (t * g)) top ∙ ap (bit_xor n) none ∙ xor_zero_r n

  pub reduced_large : (n : ℕ) → 2 ^ d ≤ n → n < 2 ^ (d + 1) → reduced d g n ≡ bit_xor (n - 2 ^ d) (g - 2 ^ d)
  reduced_large n low high =
      let p : 2 ^ (d + 1) ≡ 2 ^ d * 2 = pow_more 2 d in
      let r = n - 2 ^ d in
      let s = g - 2 ^ d in
      let hr : r < 2 ^ d = omega (arith, p) in
      let hs : s < 2 ^ d = omega (arith, p) in
      let en : n ≡ 1 * 2 ^ d + r = omega arith in
      let eg : 1 * g ≡ 1 * 2 ^ d + s = omega arith in
      let top : n / 2 ^ d ≡ 1 = ap (λ m. m / 2 ^ d) en ∙ shr_high 1 d r hr in
      ap (λ t. bit_xor n (t * g)) top ∙ ap₂ bit_xor en eg ∙ xor_block d 1 1 r s hr hs ∙ omega arith

  pub reduced_below : (n : ℕ) → n < 2 ^ (d + 1) → reduced d g n < 2 ^ d
  reduced_below n h =
      let p : 2 ^ (d + 1) ≡ 2 ^ d * 2 = pow_more 2 d in
      ⊎_elim
      (λ small. rw (reduced_small n small) small)
      (λ large. rw (reduced_large n large h) (xor_lt d (n - 2 ^ d) (g - 2 ^ d) (omega (arith, p)) (omega (arith, p))))
      (cases_lt n (2 ^ d))

  pub reduced_xor : (a b : ℕ) → a < 2 ^ (d + 1) → b < 2 ^ (d + 1) → reduced d g (bit_xor a b) ≡ bit_xor (reduced d g a) (reduced d g b)
  reduced_xor a b ha hb =
      ap (λ t. bit_xor (bit_xor a b) (t * g)) (xor_shr a b d)
      ∙ ap (bit_xor (bit_xor a b)) (digits_times (a / 2 ^ d) (b / 2 ^ d) g (top_below a ha) (top_below b hb))
      ∙ xor_four a b (a / 2 ^ d * g) (b / 2 ^ d * g)

  double_below : (r x : ℕ) → r < 2 ^ d → x < 2 → 2 * r + x < 2 ^ (d + 1)
  double_below r x h hx = omega (arith, pow_more 2 d)

  pub remainder_below : (c n : ℕ) → remainder d g c n < 2 ^ d
  unfolding remainder
  remainder_below zero n = pow_pos d
  remainder_below (suc c) n = reduced_below _ (double_below (remainder d g c (n / 2)) (n % 2) (remainder_below c (n / 2)) (omega arith))

  -- the remainder of a sum is the sum of the remainders
  pub remainder_xor : (c a b : ℕ) → remainder d g c (bit_xor a b) ≡ bit_xor (remainder d g c a) (remainder d g c b)
  unfolding remainder
  remainder_xor zero a b = refl
  remainder_xor (suc c) a b =
      let r = remainder d g c (a / 2) in
      let s = remainder d g c (b / 2) in
      let hr : r < 2 ^ d = remainder_below c (a / 2) in
      let hs : s < 2 ^ d = remainder_below c (b / 2) in
      let half : remainder d g c (bit_xor a b / 2) ≡ bit_xor r s = ap (remainder d g c) (xor_shr a b 1) ∙ remainder_xor c (a / 2) (b / 2) in
      let hx : a % 2 < 2 = omega arith in
      let hy : b % 2 < 2 = omega arith in
      ap₂ (λ p q. reduced d g (2 * p + q)) half (xor_mod a b 1)
      ∙ ap (reduced d g) (sym (xor_digit r s (a % 2) (b % 2) hx hy))
      ∙ reduced_xor (2 * r + a % 2) (2 * s + b % 2) (double_below r (a % 2) hr hx) (double_below s (b % 2) hs hy)

  -- what is below the divisor's degree is what is left of it
  pub remainder_small : (c n : ℕ) → n < 2 ^ d → n < 2 ^ c → remainder d g c n ≡ n
  unfolding remainder
  remainder_small zero n h fits = omega arith
  remainder_small (suc c) n h fits =
      let p : 2 ^ suc c ≡ 2 ^ c * 2 = ap (λ k. 2 ^ k) (sym (add-one c)) ∙ pow_more 2 c in
      let ih : remainder d g c (n / 2) ≡ n / 2 = remainder_small c (n / 2) (omega arith) (omega (arith, p)) in
      let whole : 2 * (n / 2) + n % 2 ≡ n = omega arith in
      ap (λ r. reduced d g (2 * r + n % 2)) ih ∙ ap (reduced d g) whole ∙ reduced_small n h

  remainder_double : (c n : ℕ) → remainder d g (suc c) (n * 2) ≡ reduced d g (2 * remainder d g c n)
  unfolding remainder
  remainder_double c n =
      let half : n * 2 / 2 ≡ n = omega arith in
      let even : n * 2 % 2 ≡ 0 = omega arith in
      let none : 2 * remainder d g c n + 0 ≡ 2 * remainder d g c n = omega arith in
      ap₂ (λ p q. reduced d g (2 * remainder d g c p + q)) half even ∙ ap (reduced d g) none

  -- of a power of x times n
  pub remainder_moved : (c k n : ℕ) → remainder d g (c + k) (n * 2 ^ k) ≡ moved d g k (remainder d g c n)
  unfolding moved
  remainder_moved c zero n =
      let one : n * 1 ≡ n = omega arith in
      let none : c + 0 ≡ c = omega arith in
      ap₂ (remainder d g) none one
  remainder_moved c (suc k) n =
      let more : c + suc k ≡ suc (c + k) = omega arith in
      let power : 2 ^ suc k ≡ 2 ^ k * 2 = ap (λ k. 2 ^ k) (sym (add-one k)) ∙ pow_more 2 k in
      let twice : n * 2 ^ suc k ≡ n * 2 ^ k * 2 = ap (λ m. n * m) power ∙ sym (mul_assoc n (2 ^ k) 2) in
      ap₂ (remainder d g) more twice ∙ remainder_double (c + k) (n * 2 ^ k) ∙ ap (λ r. reduced d g (2 * r)) (remainder_moved c k n)

  pub moved_below : (k n : ℕ) → n < 2 ^ d → moved d g k n < 2 ^ d
  unfolding moved
  moved_below zero n h = h
  moved_below (suc k) n h = reduced_below _ (omega (arith, moved_below k n h, pow_more 2 d))

  pub moved_xor : (k a b : ℕ) → a < 2 ^ d → b < 2 ^ d → moved d g k (bit_xor a b) ≡ bit_xor (moved d g k a) (moved d g k b)
  unfolding moved
  moved_xor zero a b ha hb = refl
  moved_xor (suc k) a b ha hb =
      let r = moved d g k a in
      let s = moved d g k b in
      let hr : 2 * r < 2 ^ (d + 1) = omega (arith, moved_below k a ha, pow_more 2 d) in
      let hs : 2 * s < 2 ^ (d + 1) = omega (arith, moved_below k b hb, pow_more 2 d) in
      let twice : 2 * bit_xor r s ≡ bit_xor (2 * r) (2 * s) = double_xor r s in
      ap (λ m. reduced d g (2 * m)) (moved_xor k a b ha hb) ∙ ap (reduced d g) twice ∙ reduced_xor (2 * r) (2 * s) hr hs

  -- if it doesn't reach the divisor's degree
  pub moved_small : (k n : ℕ) → n * 2 ^ k < 2 ^ d → moved d g k n ≡ n * 2 ^ k
  unfolding moved
  moved_small zero n h = omega arith
  moved_small (suc k) n h =
      let power : 2 ^ suc k ≡ 2 ^ k * 2 = ap (λ k. 2 ^ k) (sym (add-one k)) ∙ pow_more 2 k in
      let twice : n * 2 ^ suc k ≡ n * 2 ^ k * 2 = ap (λ m. n * m) power ∙ sym (mul_assoc n (2 ^ k) 2) in
      let ih : moved d g k n ≡ n * 2 ^ k = moved_small k n (omega (arith, twice)) in
      let turned : 2 * (n * 2 ^ k) ≡ n * 2 ^ suc k = omega (arith, twice) in
      ap (λ r. reduced d g (2 * r)) ih ∙ ap (reduced d g) turned ∙ reduced_small (n * 2 ^ suc k) h

  -- ---- it is the remainder

  times_below : (m q : ℕ) → times m g q < 2 ^ (m + d + 1)
  unfolding times
  times_below zero q = pow_pos (0 + d + 1)
  times_below (suc m) q =
      let k : ℕ = m + d + 1 in
      let more : suc m + d + 1 ≡ k + 1 = omega arith in
      let power : 2 ^ (k + 1) ≡ 2 ^ k * 2 = pow_more 2 k in
      let low : 2 * times m g (q / 2) < 2 ^ (k + 1) = omega (arith, power, times_below m (q / 2)) in
      let wide : 2 ^ (d + 1) ≤ 2 ^ (k + 1) = pow_mono {i = d + 1} {j = k + 1} (omega arith) in
      let high : q % 2 * g < 2 ^ (k + 1) = elim (digit (q % 2) (omega arith)) [
        | inl e ↦ let none : 0 * g ≡ 0 = omega arith in rw (e, none) (pow_pos (k + 1))
        | inr e ↦ let one : 1 * g ≡ g = omega arith in rw (e, one) (omega (arith, wide))
      ] in
      rw more (xor_lt (k + 1) (2 * times m g (q / 2)) (q % 2 * g) low high)

  -- more coefficients, which are zeros, leave the same
  remainder_more : (k j n : ℕ) → n < 2 ^ k → remainder d g (k + j) n ≡ remainder d g k n
  unfolding remainder
  remainder_more zero j n h =
      let none : n ≡ 0 = omega arith in
      let power : 0 < 2 ^ (0 + j) = pow_pos (0 + j) in
      ap (remainder d g (0 + j)) none ∙ remainder_small (0 + j) 0 (pow_pos d) power
  remainder_more (suc k) j n h =
      let power : 2 ^ suc k ≡ 2 ^ k * 2 = ap (λ m. 2 ^ m) (sym (add-one k)) ∙ pow_more 2 k in
      let more : suc k + j ≡ suc (k + j) = omega arith in
      ap (λ c. remainder d g c n) more ∙ ap (λ r. reduced d g (2 * r + n % 2)) (remainder_more k j (n / 2) (omega (arith, power)))

  divisor_left : (c : ℕ) → d ≤ c → remainder d g (suc c) g ≡ 0
  unfolding remainder
  divisor_left c deep =
      let half : g / 2 < 2 ^ d = omega (arith, pow_more 2 d) in
      let wide : 2 ^ d ≤ 2 ^ c = pow_mono {i = d} {j = c} deep in
      let whole : 2 * (g / 2) + g % 2 ≡ g = omega arith in
      let split : g ≡ 1 * 2 ^ d + (g - 2 ^ d) = omega arith in
      let top : g / 2 ^ d ≡ 1 = ap (λ m. m / 2 ^ d) split ∙ shr_high 1 d (g - 2 ^ d) (omega (arith, pow_more 2 d)) in
      let one : 1 * g ≡ g = omega arith in
      ap (λ r. reduced d g (2 * r + g % 2)) (remainder_small c (g / 2) half (omega (arith, half, wide)))
      ∙ ap (reduced d g) whole ∙ ap (λ t. bit_xor g (t * g)) top ∙ ap (bit_xor g) one ∙ xor_self g

  multiple_left : (m q : ℕ) → remainder d g (m + d + 1) (times m g q) ≡ 0
  unfolding times
  multiple_left zero q = remainder_small (0 + d + 1) 0 (pow_pos d) (pow_pos (0 + d + 1))
  multiple_left (suc m) q =
      let k : ℕ = m + d + 1 in
      let more : suc m + d + 1 ≡ suc k = omega arith in
      let t : ℕ = times m g (q / 2) in
      let turn : 2 * t ≡ t * 2 = omega arith in
      let some : 0 < 2 ^ d = pow_pos d in
      let even : remainder d g (suc k) (2 * t) ≡ 0 =
      ap (remainder d g (suc k)) turn ∙ remainder_double k t ∙ ap (λ r. reduced d g (2 * r)) (multiple_left m (q / 2)) ∙ reduced_small 0 some in
      let last : remainder d g (suc k) (q % 2 * g) ≡ 0 = elim (digit (q % 2) (omega arith)) [
        | inl e ↦
            let none : 0 * g ≡ 0 = omega arith in
            ap (λ x. remainder d g (suc k) (x * g)) e ∙ ap (remainder d g (suc k)) none ∙ remainder_small (suc k) 0 some (pow_pos (suc k))
        | inr e ↦
            let one : 1 * g ≡ g = omega arith in
            ap (λ x. remainder d g (suc k) (x * g)) e ∙ ap (remainder d g (suc k)) one ∙ divisor_left k (omega arith)
      ] in
      ap (λ c. remainder d g c (bit_xor (2 * t) (q % 2 * g))) more
      ∙ remainder_xor (suc k) (2 * t) (q % 2 * g)
      ∙ ap₂ bit_xor even last

  -- whatever is left of n is its remainder
  pub left_is_remainder : (c n r : ℕ) → n < 2 ^ c → IsLeft d g n r → r ≡ remainder d g c n
  left_is_remainder c n r h is =
      let m : ℕ = is.count in
      let t : ℕ = times m g is.quotient in
      let k : ℕ = m + d + 1 in
      let deep : d ≤ k + c = omega arith in
      let wide : 2 ^ d ≤ 2 ^ (k + c) = pow_mono {i = d} {j = k + c} deep in
      let low : r < 2 ^ d = is.below in
      let turn : c + k ≡ k + c = omega arith in
      let whole : remainder d g (k + c) n ≡ remainder d g c n = ap (λ j. remainder d g j n) (sym turn) ∙ remainder_more c k n h in
      let multiple : remainder d g (k + c) t ≡ 0 = remainder_more k c t (times_below m is.quotient) ∙ multiple_left m is.quotient in
      sym (
      sym whole
      ∙ ap (remainder d g (k + c)) is.whole
      ∙ remainder_xor (k + c) t r
      ∙ ap₂ bit_xor multiple (remainder_small (k + c) r low (omega (arith, low, wide)))
      )

  -- and its remainder is left of it
  pub remainder_is_left : (c n : ℕ) → n < 2 ^ c → IsLeft d g n (remainder d g c n)
  unfolding remainder times
  remainder_is_left zero n h = record {
    count = 0;
    quotient = 0;
    below = pow_pos d;
    whole = omega arith;
  }
  remainder_is_left (suc c) n h =
      let power : 2 ^ suc c ≡ 2 ^ c * 2 = ap (λ m. 2 ^ m) (sym (add-one c)) ∙ pow_more 2 c in
      let ih : IsLeft d g (n / 2) (remainder d g c (n / 2)) = remainder_is_left c (n / 2) (omega (arith, power)) in
      let r : ℕ = remainder d g c (n / 2) in
      let x : ℕ = n % 2 in
      let hx : x < 2 = omega arith in
      let hr : r < 2 ^ d = remainder_below c (n / 2) in
      let stands : ℕ = 2 * r + x in
      let fits : stands < 2 ^ (d + 1) = double_below r x hr hx in
      let top : ℕ = stands / 2 ^ d in
      let htop : top < 2 = top_below stands fits in
      let t : ℕ = times ih.count g ih.quotient in
      let q : ℕ = 2 * ih.quotient + top in
      let half : q / 2 ≡ ih.quotient = omega (arith, htop) in
      let odd : q % 2 ≡ top = omega (arith, htop) in
      let turn : 2 * t + 0 ≡ 2 * t = omega arith in
      let digits : n ≡ bit_xor (2 * t) stands =
      (let e : n ≡ 2 * (n / 2) + x = omega arith in e)
      ∙ ap (λ m. 2 * m + x) ih.whole
      ∙ sym (xor_digit t r 0 x (omega arith) hx)
      ∙ ap (λ m. bit_xor m stands) turn in
      let back : stands ≡ bit_xor (top * g) (reduced d g stands) =
      sym (xor_comm (top * g) (bit_xor stands (top * g)) ∙ xor_assoc stands (top * g) (top * g) ∙ ap (bit_xor stands) (xor_self (top * g)) ∙ xor_zero_r stands) in
      let product : bit_xor (2 * t) (top * g) ≡ bit_xor (2 * times ih.count g (q / 2)) (q % 2 * g) =
      ap₂ (λ a b. bit_xor (2 * times ih.count g a) (b * g)) (sym half) (sym odd) in
      record {
        count = suc ih.count;
        quotient = q;
        below = reduced_below stands fits;
        whole = digits ∙ ap (bit_xor (2 * t)) back ∙ sym (xor_assoc (2 * t) (top * g) (reduced d g stands)) ∙ ap (λ m. bit_xor m (reduced d g stands)) product;
      }
