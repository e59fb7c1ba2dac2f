-- A product by a power of x is what so many steps leave, so powers are taken by squaring.
use Rattle.std.proofs.Common.{◌≡◌, ℕ, zero, suc, ◌+◌, ◌-◌, ◌*◌, ◌/◌, ◌%◌, ◌^◌, ◌<◌, ◌≤◌, inl, inr, refl, sym, ap, ap₂, ◌∙◌, arith, add-one}
use Rattle.std.specs.Int.Bits.{bit_xor, xor_zero_r}
use Rattle.std.proofs.lemmas.Nat.{pow_pos, shr-shr}
use Rattle.std.proofs.lemmas.Grind.{pow_more}
use Rattle.std.proofs.Math.Nat.{zero-add, add-mul, mul-add, mul_assoc, mul-one, mul-zero, div-one}
use lib.Bits.{xor_shifted}
use Rattle.crc.specs.Division.{reduced, moved}
use Rattle.crc.specs.Products.{product}
use Rattle.crc.proofs.Divisions.{digit, reduced_small, reduced_large, moved_below, moved_xor, moved_small}

module _ (d g : ℕ) (least : 2 ^ d ≤ g) (most : g < 2 ^ (d + 1)) where
  pub moved_zero : (k : ℕ) → moved d g k 0 ≡ 0
  moved_zero k =
      let none : 0 * 2 ^ k ≡ 0 = omega arith in
      let some : 0 < 2 ^ d = pow_pos d in
      moved_small d g least most k 0 (omega arith) ∙ none

  pub moved_add : (j k n : ℕ) → moved d g (j + k) n ≡ moved d g j (moved d g k n)
  unfolding moved
  moved_add zero k n = ap (λ i. moved d g i n) (zero-add k)
  moved_add (suc j) k n =
      let more : suc j + k ≡ suc (j + k) = omega arith in
      ap (λ i. moved d g i n) more ∙ ap (λ r. reduced d g (2 * r)) (moved_add j k n)

  moved_double : (k n : ℕ) → moved d g k (reduced d g (2 * n)) ≡ reduced d g (2 * moved d g k n)
  unfolding moved
  moved_double zero n = refl
  moved_double (suc k) n = ap (λ r. reduced d g (2 * r)) (moved_double k n)

  -- a power of x times b
  pub product_moved : (k c b : ℕ) → b < 2 ^ c → b < 2 ^ d → product d g c (moved d g k 1) b ≡ moved d g k b
  unfolding product
  product_moved k zero b fits h =
      let none : b ≡ 0 = omega arith in
      sym (ap (moved d g k) none ∙ moved_zero k)
  product_moved k (suc c) b fits h =
      let power : 2 ^ suc c ≡ 2 ^ c * 2 = ap (λ m. 2 ^ m) (sym (add-one c)) ∙ pow_more 2 c in
      let a : ℕ = moved d g k 1 in
      let x : ℕ = b % 2 in
      let hx : x < 2 = omega arith in
      let half : 2 * (b / 2) < 2 ^ d = omega arith in
      let some : 1 ≤ 2 ^ d = pow_pos d in
      let small : x < 2 ^ d = omega arith in
      let ih : product d g c a (b / 2) ≡ moved d g k (b / 2) = product_moved k c (b / 2) (omega (arith, power)) (omega arith) in
      let high : reduced d g (2 * product d g c a (b / 2)) ≡ moved d g k (2 * (b / 2)) =
      ap (λ r. reduced d g (2 * r)) ih ∙ sym (moved_double k (b / 2)) ∙ ap (moved d g k) (reduced_small d g least most (2 * (b / 2)) half) in
      let turn : 2 * (b / 2) ≡ b / 2 * 2 ^ 1 = omega arith in
      let whole : bit_xor (2 * (b / 2)) x ≡ b = ap (λ m. bit_xor m x) turn ∙ xor_shifted (b / 2) 1 x hx ∙ omega arith in
      ap₂ bit_xor high (once x hx)
      ∙ sym (moved_xor d g least most k (2 * (b / 2)) x half small)
      ∙ ap (moved d g k) whole
    where
      once : (x : ℕ) → x < 2 → x * moved d g k 1 ≡ moved d g k x
      once x hx = elim (digit x hx) [
        | inl e ↦
            let none : 0 * moved d g k 1 ≡ 0 = omega arith in
            ap (λ n. n * moved d g k 1) e ∙ none ∙ sym (ap (moved d g k) e ∙ moved_zero k)
        | inr e ↦
            let one : 1 * moved d g k 1 ≡ moved d g k 1 = omega arith in
            ap (λ n. n * moved d g k 1) e ∙ one ∙ sym (ap (moved d g k) e)
      ]

-- no more coefficient
pub no_coefficient : (a x n : ℕ) → (x % 2 ≡ 1 → ⊥) → a ≡ bit_xor a (x % 2 * n)
no_coefficient a x n h =
    let even : x % 2 ≡ 0 = omega arith in
    let none : 0 * n ≡ 0 = omega arith in
    sym (ap (λ m. bit_xor a (m * n)) even ∙ ap (bit_xor a) none ∙ xor_zero_r a)

-- ---- degree 32

-- the product by the coefficients from place p on
pub record IsProduct (g n m p product_now : ℕ) : Type 0 where
  pub at : p ≤ 32
  pub is : product_now ≡ product 32 g (32 - p) n (m / 2 ^ p)

module _ (g : ℕ) (least : 2 ^ 32 ≤ g) (most : g < 2 ^ 33) where
  pub doubled_high : (n low : ℕ) → n < 2 ^ 32 → 2 ^ 31 ≤ n → 2 ^ 32 + low ≡ g → bit_xor (n * 2 % 2 ^ 32) low ≡ reduced 32 g (2 * n)
  doubled_high n low h large is =
      let rest : n * 2 % 2 ^ 32 ≡ 2 * n - 2 ^ 32 = omega arith in
      let low_is : low ≡ g - 2 ^ 32 = omega arith in
      ap₂ bit_xor rest low_is ∙ sym (reduced_large 32 g least most (2 * n) (omega arith) (omega arith))

  pub doubled_low : (n : ℕ) → n < 2 ^ 31 → n * 2 % 2 ^ 32 ≡ reduced 32 g (2 * n)
  doubled_low n small =
      let same : n * 2 % 2 ^ 32 ≡ 2 * n = omega arith in
      same ∙ sym (reduced_small 32 g least most (2 * n) (omega arith))

  pub product_none : (n m : ℕ) → 0 ≡ product 32 g 0 n m
  unfolding product
  product_none n m = refl

  -- one more coefficient, of m from its bit p on
  pub product_more : (so_far n m p c : ℕ) → c + p ≡ 31 → so_far ≡ product 32 g c n (m / 2 ^ (p + 1))
      → bit_xor (reduced 32 g (2 * so_far)) (m / 2 ^ p % 2 * n) ≡ product 32 g (c + 1) n (m / 2 ^ p)
  unfolding product
  product_more so_far n m p c at is =
      let half : m / 2 ^ p / 2 ≡ m / 2 ^ (p + 1) = shr-shr m p 1 in
      ap (λ r. bit_xor (reduced 32 g (2 * r)) (m / 2 ^ p % 2 * n)) (is ∙ ap (product 32 g c n) (sym half))
      ∙ ap (λ k. product 32 g k n (m / 2 ^ p)) (sym (add-one c))

  pub product_init : (n m : ℕ) → IsProduct g n m 32 0
  product_init n m = record { at = omega arith; is = product_none n (m / 2 ^ 32) }

  pub product_done : (n m p now : ℕ) → p ≡ 0 → IsProduct g n m p now → now ≡ product 32 g 32 n m
  product_done n m p now e i = i.is ∙ ap (λ k. product 32 g (32 - k) n (m / 2 ^ k)) e ∙ ap (product 32 g 32 n) (div-one m)

  pub product_goes : (n m p q now next : ℕ) → p ≡ q + 1 → next ≡ bit_xor (reduced 32 g (2 * now)) (m / 2 ^ q % 2 * n) → IsProduct g n m p now → IsProduct g n m q next
  product_goes n m p q now next e is i =
      let top : p ≤ 32 = i.at in
      let c : ℕ = 32 - p in
      let before : now ≡ product 32 g c n (m / 2 ^ (q + 1)) = i.is ∙ ap (λ k. product 32 g c n (m / 2 ^ k)) e in
      let more : c + 1 ≡ 32 - q = omega arith in
      record {
        at = omega arith;
        is = is ∙ product_more now n m q c (omega arith) before ∙ ap (λ k. product 32 g k n (m / 2 ^ q)) more;
      }

  -- What is left to do, if power is x^m.
  pub record IsMoved (count before left power now : ℕ) : Type 0 where
    pub m : ℕ
    pub power_is : power ≡ moved 32 g m 1
    pub below : now < 2 ^ 32
    pub rest : moved 32 g (m * left) now ≡ moved 32 g (8 * count) before

  pub moved_init : (count before : ℕ) → before < 2 ^ 32 → IsMoved count before count 256 before
  moved_init count before h = record {
    m = 8;
    power_is = sym (moved_small 32 g least most 8 1 (omega arith));
    below = h;
    rest = refl;
  }

  pub moved_done : (count before left power now : ℕ) → left ≡ 0 → IsMoved count before left power now → now ≡ moved 32 g (8 * count) before
  unfolding moved
  moved_done count before left power now e i =
      let none : i.m * left ≡ 0 = ap (λ n. i.m * n) e ∙ mul-zero i.m in
      sym (ap (λ k. moved 32 g k now) none) ∙ i.rest

  power_below : (count before left power now : ℕ) → IsMoved count before left power now → power < 2 ^ 32
  power_below count before left power now i = rw i.power_is (moved_below 32 g least most i.m 1 (omega arith))

  squared : (power m : ℕ) → power ≡ moved 32 g m 1 → product 32 g 32 power power ≡ moved 32 g (m + m) 1
  squared power m is =
      let small : power < 2 ^ 32 = rw is (moved_below 32 g least most m 1 (omega arith)) in
      ap (λ p. product 32 g 32 p power) is ∙ product_moved 32 g least most m 32 power small small
      ∙ ap (moved 32 g m) is ∙ sym (moved_add 32 g least most m m 1)

  -- an even number is left
  pub moved_even : (count before left power now : ℕ) → left % 2 ≡ 0 → IsMoved count before left power now
      → IsMoved count before (left / 2) (product 32 g 32 power power) now
  moved_even count before left power now even i =
      let m : ℕ = i.m in
      let h : ℕ = left / 2 in
      let twice : left ≡ 2 * h = omega arith in
      let split : (m + m) * h ≡ m * left = add-mul m m h ∙ (let e : m * h + m * h ≡ m * h * 2 = omega arith in e) ∙ mul_assoc m h 2 ∙ ap (λ n. m * n) (let e : h * 2 ≡ left = omega arith in e) in
      record {
        m = m + m;
        power_is = squared power m i.power_is;
        below = i.below;
        rest = ap (λ k. moved 32 g k now) split ∙ i.rest;
      }

  -- an odd number is left
  pub moved_odd : (count before left power now : ℕ) → left % 2 ≡ 1 → IsMoved count before left power now
      → IsMoved count before (left / 2) (product 32 g 32 power power) (product 32 g 32 power now)
  moved_odd count before left power now odd i =
      let m : ℕ = i.m in
      let h : ℕ = left / 2 in
      let next : product 32 g 32 power now ≡ moved 32 g m now =
      ap (λ p. product 32 g 32 p now) i.power_is ∙ product_moved 32 g least most m 32 now i.below i.below in
      let odd_is : h * 2 + 1 ≡ left = omega arith in
      let split : (m + m) * h + m ≡ m * left =
      ap (λ n. n + m) (add-mul m m h ∙ (let e : m * h + m * h ≡ m * h * 2 = omega arith in e) ∙ mul_assoc m h 2)
      ∙ ap (λ n. m * (h * 2) + n) (sym (mul-one m)) ∙ sym (mul-add m (h * 2) 1) ∙ ap (λ n. m * n) odd_is in
      record {
        m = m + m;
        power_is = squared power m i.power_is;
        below = rw next (moved_below 32 g least most m now i.below);
        rest = ap (moved 32 g ((m + m) * h)) next ∙ sym (moved_add 32 g least most ((m + m) * h) m now) ∙ ap (λ k. moved 32 g k now) split ∙ i.rest;
      }

  pub moved_goes_even : (count before left power now next_power next : ℕ) → left % 2 ≡ 0 → next_power ≡ product 32 g 32 power power → next ≡ now → IsMoved count before left power now
      → IsMoved count before (left / 2) next_power next
  moved_goes_even count before left power now next_power next even e f i = rw (e, f) (moved_even count before left power now even i)

  pub moved_goes_odd : (count before left power now next_power next : ℕ) → left % 2 ≡ 1 → next_power ≡ product 32 g 32 power power → next ≡ product 32 g 32 power now → IsMoved count before left power now
      → IsMoved count before (left / 2) next_power next
  moved_goes_odd count before left power now next_power next odd e f i = rw (e, f) (moved_odd count before left power now odd i)
