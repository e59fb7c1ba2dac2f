-- Exported: what the division leaves of the bits that were turned, for frames.
use Rattle.std.proofs.Common.{◌≡◌, ℕ, zero, suc, ◌+◌, ◌-◌, ◌*◌, ◌/◌, ◌%◌, ◌^◌, ◌<◌, ◌≤◌, ◌⊎◌, inl, inr, refl, sym, ap, ap₂, ◌∙◌, arith, add-one}
use Rattle.std.specs.Int.Bits.{bit_xor, xor_self, xor_zero_r, xor_zero_l}
use Rattle.std.proofs.lemmas.Nat.{pow_pos, xor_lt}
use Rattle.std.proofs.lemmas.Grind.{pow_more}
use lib.Bits.{xor_assoc}
use Rattle.crc.specs.Division.{reduced, remainder, moved}
use Rattle.crc.specs.Checks.{divisor16}
use Rattle.crc.proofs.Divisions as div
use Rattle.crc.specs.Damage.{IsBurst, AreTwo, AreThree}
use Rattle.crc.proofs.Walks.{no_power_is_one}

abbrev rem : ℕ → ℕ → ℕ
rem = remainder 16 divisor16

abbrev mov : ℕ → ℕ → ℕ
mov = moved 16 divisor16

pub least : 2 ^ 16 ≤ divisor16
least = omega arith

pub most : divisor16 < 2 ^ 17
most = omega arith

-- two numbers whose sum is nothing are one
pub xor_same : (a b : ℕ) → bit_xor a b ≡ 0 → a ≡ b
xor_same a b e =
    sym (xor_zero_r a) ∙ ap (bit_xor a) (sym (xor_self b)) ∙ sym (xor_assoc a b b) ∙ ap (λ n. bit_xor n b) e ∙ xor_zero_l b

-- ---- a burst
odd : (r : ℕ) → 2 * r ≡ 69665 → ⊥
odd r e = absurd (omega (arith, e))

-- x times something leaves something
step_zero : (r : ℕ) → r < 2 ^ 16 → reduced 16 divisor16 (2 * r) ≡ 0 → r ≡ 0
step_zero r h e =
    let same : 2 * r ≡ 2 * r / 2 ^ 16 * divisor16 = xor_same (2 * r) (2 * r / 2 ^ 16 * divisor16) e in
    by (2 * r / 2 ^ 16) refl same where
      by : (t : ℕ) → 2 * r / 2 ^ 16 ≡ t → 2 * r ≡ t * divisor16 → r ≡ 0
      by zero is e = omega (arith, e)
      by (suc zero) is e = absurd (odd r (omega (arith, e)))
      by (suc (suc t)) is e = absurd (omega (arith, is, h))

moved_zero : (k r : ℕ) → r < 2 ^ 16 → mov k r ≡ 0 → r ≡ 0
unfolding moved
moved_zero zero r h e = e
moved_zero (suc k) r h e =
    moved_zero k r h (step_zero (mov k r) (div.moved_below 16 divisor16 least most k r h) e)

burst : (count e : ℕ) → IsBurst count e → rem count e ≡ 0 → ⊥
burst count e is none =
    let at : rem count e ≡ mov is.behind (rem is.before is.bits) =
    ap₂ rem is.place is.are ∙ div.remainder_moved 16 divisor16 least most is.before is.behind is.bits in
    let small : rem is.before is.bits ≡ is.bits = div.remainder_small 16 divisor16 least most is.before is.bits is.few is.within in
    let gone : mov is.behind is.bits ≡ 0 = ap (mov is.behind) (sym small) ∙ sym at ∙ none in
    let zero_bits : is.bits ≡ 0 = moved_zero is.behind is.bits is.few gone in
    let some = is.some in
    absurd (omega (arith, zero_bits, some))

-- ---- two bits
pub power : (d g : ℕ) (least : 2 ^ d ≤ g) (most : g < 2 ^ (d + 1)) (one : 1 < 2 ^ d) (count i : ℕ) → i < count → remainder d g count (2 ^ i) ≡ moved d g i 1
power d g least most one count i h =
    let c : ℕ = count - i in
    let n : count ≡ c + i = omega arith in
    let alone : 2 ^ i ≡ 1 * 2 ^ i = omega arith in
    let c' : c ≡ (c - 1) + 1 = omega arith in
    let some = pow_pos (c - 1) in
    let fits : 1 < 2 ^ c = rw c' (omega (arith, pow_more 2 (c - 1), some)) in
    ap₂ (remainder d g) n alone ∙ div.remainder_moved d g least most c i 1
    ∙ ap (moved d g i) (div.remainder_small d g least most c 1 one fits)

moved-add : (a b n : ℕ) → mov (a + b) n ≡ mov b (mov a n)
unfolding moved
moved-add a zero n = let e : a + 0 ≡ a = omega arith in ap (λ k. mov k n) e
moved-add a (suc b) n =
    let e : a + suc b ≡ suc (a + b) = omega arith in
    ap (λ k. mov k n) e ∙ ap (λ m. reduced 16 divisor16 (2 * m)) (moved-add a b n)

two : (count e : ℕ) → count ≤ 16384 → AreTwo count e → rem count e ≡ 0 → ⊥
two count e few is none =
    let i = is.first in
    let j = is.last in
    let apart = is.apart in
    let within = is.within in
    let one : 1 < 2 ^ 16 = omega arith in
    let d : ℕ = i - j in
    let sum : rem count e ≡ bit_xor (mov i 1) (mov j 1) =
    ap (rem count) is.are ∙ div.remainder_xor 16 divisor16 least most count (2 ^ i) (2 ^ j)
    ∙ ap₂ bit_xor (power 16 divisor16 least most one count i within) (power 16 divisor16 least most one count j (omega arith)) in
    let same : mov i 1 ≡ mov j 1 = xor_same (mov i 1) (mov j 1) (sym sum ∙ none) in
    let n : i ≡ d + j = omega arith in
    let far : mov i 1 ≡ mov j (mov d 1) = ap (λ k. mov k 1) n ∙ moved-add d j 1 in
    let below : mov d 1 < 2 ^ 16 = div.moved_below 16 divisor16 least most d 1 one in
    let both : mov j (bit_xor (mov d 1) 1) ≡ 0 =
    div.moved_xor 16 divisor16 least most j (mov d 1) 1 below one
    ∙ ap (λ m. bit_xor m (mov j 1)) (sym far ∙ same) ∙ xor_self (mov j 1) in
    let alike : mov d 1 ≡ 1 = xor_same (mov d 1) 1
    (moved_zero j (bit_xor (mov d 1) 1) (below_xor (mov d 1) 1 below one) both) in
    no_power_is_one d (omega arith) (omega arith) alike where
      below_xor : (a b : ℕ) → a < 2 ^ 16 → b < 2 ^ 16 → bit_xor a b < 2 ^ 16
      below_xor a b ha hb = xor_lt 16 a b ha hb

-- ---- three bits: each multiple of the divisor has an even number of terms, since x + 1 divides it
abbrev parity : ℕ → ℕ → ℕ
parity = remainder 1 3

least3 : 2 ^ 1 ≤ 3
least3 = omega arith

most3 : 3 < 2 ^ 2
most3 = omega arith

-- a digit of nothing at the front changes nothing
wider : (c n : ℕ) → n < 2 ^ c → parity (suc c) n ≡ parity c n
unfolding remainder
wider zero n h =
    let none : n ≡ 0 = omega arith in
    ap (parity 1) none
wider (suc c) n h =
    let p : 2 ^ suc c ≡ 2 ^ c * 2 = ap (λ k. 2 ^ k) (sym (add-one c)) ∙ pow_more 2 c in
    ap (λ r. reduced 1 3 (2 * r + n % 2)) (wider c (n / 2) (omega (arith, p)))

divisor_even : (t : ℕ) → t < 2 → parity 17 (t * divisor16) ≡ 0
unfolding remainder
divisor_even zero h = refl
divisor_even (suc zero) h = refl
divisor_even (suc (suc t)) h = absurd (omega arith)

-- the parity of what is left is the same as of what was divided
parity_left : (c n : ℕ) → parity 16 (rem c n) ≡ parity c n
unfolding remainder
parity_left zero n = refl
parity_left (suc c) n =
    let r = rem c (n / 2) in
    let low = div.remainder_below 16 divisor16 least most c (n / 2) in
    let m : ℕ = 2 * r + n % 2 in
    let t : ℕ = m / 2 ^ 16 in
    let left : ℕ = reduced 16 divisor16 m in
    let high : m < 2 ^ 17 = omega (arith, low) in
    let below : left < 2 ^ 16 = div.reduced_below 16 divisor16 least most m high in
    let top : t < 2 = omega (arith, high) in
    let half : m / 2 ≡ r = omega arith in
    let last : m % 2 ≡ n % 2 = omega arith in
    sym (wider 16 left below)
    ∙ div.remainder_xor 1 3 least3 most3 17 m (t * divisor16)
    ∙ ap (bit_xor (parity 17 m)) (divisor_even t top)
    ∙ xor_zero_r (parity 17 m)
    ∙ ap₂ (λ p q. reduced 1 3 (2 * parity 16 p + q)) half last
    ∙ ap (λ p. reduced 1 3 (2 * p + n % 2)) (parity_left c (n / 2))

odd_power : (i : ℕ) → moved 1 3 i 1 ≡ 1
unfolding moved
odd_power zero = refl
odd_power (suc i) = ap (λ r. reduced 1 3 (2 * r)) (odd_power i)

power_odd : (count i : ℕ) → i < count → parity count (2 ^ i) ≡ 1
power_odd count i h = power 1 3 least3 most3 (omega arith) count i h ∙ odd_power i

nothing_even : (c : ℕ) → parity c 0 ≡ 0
unfolding remainder
nothing_even zero = refl
nothing_even (suc c) = ap (λ r. reduced 1 3 (2 * r + 0)) (nothing_even c)

three : (count e : ℕ) → AreThree count e → rem count e ≡ 0 → ⊥
three count e is none =
    let i = is.first in
    let j = is.second in
    let k = is.last in
    let even : parity count e ≡ 0 = sym (parity_left count e) ∙ ap (parity 16) none ∙ nothing_even 16 in
    let sum : parity count e ≡ 1 =
    ap (parity count) is.are
    ∙ div.remainder_xor 1 3 least3 most3 count (bit_xor (2 ^ i) (2 ^ j)) (2 ^ k)
    ∙ ap₂ bit_xor
    (div.remainder_xor 1 3 least3 most3 count (2 ^ i) (2 ^ j)
    ∙ ap₂ bit_xor (power_odd count i is.within_first) (power_odd count j is.within_second))
    (power_odd count k is.within_last) in
    let wrong : 0 ≡ 1 = sym even ∙ sum in
    absurd (omega (arith, wrong))

-- Something is left of each of these.
pub is_left : (count e : ℕ) → count ≤ 16384 → IsBurst count e ⊎ (AreTwo count e ⊎ AreThree count e) → rem count e ≡ 0 → ⊥
is_left count e few (inl is) none = burst count e is none
is_left count e few (inr (inl is)) none = two count e few is none
is_left count e few (inr (inr is)) none = three count e is none
