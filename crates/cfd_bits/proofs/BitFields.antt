-- Exported: laws of bit fields that codecs need.
use Rattle.std.proofs.Common.{◌≡◌, ℕ, zero, suc, ◌+◌, ◌-◌, ◌*◌, ◌/◌, ◌%◌, ◌^◌, ◌<◌, ◌≤◌, ◌⊎◌, List, [], ◌++◌, length, get_or, take, refl, sym, ap, ◌∙◌, add-one, arith, inl, inr}
use Rattle.std.proofs.lemmas.List.{get_or-take}
use Rattle.std.proofs.lemmas.Grind.{pow_more}
use Rattle.std.proofs.lemmas.Nat.{pow-add, shr_high, mod_low}
use Rattle.std.proofs.lemmas.Nat.Bits.{same_from_bits_below}
use Rattle.cfd_bits.specs.Field.{bit, field, octets, SameOutside, HasBits}
use Rattle.cfd_bits.proofs.Fields.{field_between}

pub bit-below : (o : List ℕ) (i : ℕ) → bit o i < 2
unfolding bit
bit-below o i = omega arith

-- a field of so many bits is below that power of two
pub field-below : (o : List ℕ) (at w : ℕ) → field o at w < 2 ^ w
unfolding field
field-below o at zero = omega arith
field-below o at (suc w) =
    let p : 2 ^ (w + 1) ≡ 2 ^ w * 2 = pow_more 2 w in
    let n : w + 1 ≡ suc w = omega arith in
    let q : 2 ^ suc w ≡ 2 ^ w * 2 = rw (← n) p in
    omega (arith, field-below o at w, bit-below o (at + w))

pub pow_of_octets : (n : ℕ) → 256 ^ n ≡ 2 ^ (8 * n)
pow_of_octets zero = refl
pow_of_octets (suc n) =
    let one : n + 1 ≡ suc n = omega arith in
    let eight : 8 * suc n ≡ 8 * n + 8 = omega arith in
    let p : 256 ^ suc n ≡ 256 ^ n * 256 = rw (← one) (pow_more 256 n) in
    p ∙ ap (λ k. k * 256) (pow_of_octets n) ∙ sym (ap (λ k. 2 ^ k) eight ∙ pow-add 2 (8 * n) 8)

-- a field of so many octets is below that power of 256
pub field-below_octets : (o : List ℕ) (at n : ℕ) → field o at (8 * n) < 256 ^ n
field-below_octets o at n = rw (pow_of_octets n) (field-below o at (8 * n))

-- a field of one bit is that bit
pub field-one : (o : List ℕ) (at : ℕ) → field o at 1 ≡ bit o at
unfolding field
field-one o at = let e : at + 0 ≡ at = omega arith in rw e (omega arith)

-- two fields, the second after the first, are one field
pub field-split : (o : List ℕ) (at v w : ℕ) → field o at (v + w) ≡ field o at v * 2 ^ w + field o (at + v) w
unfolding field
field-split o at v zero = let e : v + 0 ≡ v = omega arith in rw e (omega arith)
field-split o at v (suc w) =
    let e : v + suc w ≡ suc (v + w) = omega arith in
    let p : at + (v + w) ≡ at + v + w = omega arith in
    let n : w + 1 ≡ suc w = omega arith in
    let q : 2 ^ suc w ≡ 2 ^ w * 2 = rw (← n) (pow_more 2 w) in
    let one : field o at (suc (v + w)) ≡ 2 * field o at (v + w) + bit o (at + v + w) = rw p refl in
    rw (e, one, field-split o at v w, q) (omega arith)

-- the first bits of a field
pub field-front : (o : List ℕ) (at w m : ℕ) → w ≤ m → field o at m / 2 ^ (m - w) ≡ field o at w
field-front o at w m h =
    let r : ℕ = m - w in
    let e : m ≡ w + r = omega arith in
    ap (λ n. n / 2 ^ r) (ap (λ n. field o at n) e ∙ field-split o at w r) ∙ shr_high (field o at w) r (field o (at + w) r) (field-below o (at + w) r)

-- a field that lies in a longer one
pub field-part : (o : List ℕ) (at i w m : ℕ) → i + w ≤ m → field o (at + i) w ≡ field o at m / 2 ^ (m - (i + w)) % 2 ^ w
field-part o at i w m h =
    let r : ℕ = m - (i + w) in
    let high : field o at m / 2 ^ r ≡ field o at (i + w) = field-front o at (i + w) m h in
    let low : field o at (i + w) % 2 ^ w ≡ field o (at + i) w = ap (λ n. n % 2 ^ w) (field-split o at i w) ∙ mod_low (field o at i) w (field o (at + i) w) (field-below o (at + i) w) in
    sym (ap (λ n. n % 2 ^ w) high ∙ low)

-- bit i of a field, the most significant first, is that bit of the octets
pub field-bit : (o : List ℕ) (at w i : ℕ) → i < w → field o at w / 2 ^ (w - (i + 1)) % 2 ≡ bit o (at + i)
field-bit o at w i h = sym (field-part o at i 1 w (omega arith)) ∙ field-one o (at + i)

-- fields of octets whose bits are the same there
pub field-same : (a b : List ℕ) (at w : ℕ) → ((i : ℕ) → at ≤ i → i < at + w → bit a i ≡ bit b i) → field a at w ≡ field b at w
unfolding field
field-same a b at zero h = refl
field-same a b at (suc w) h =
    let last : bit a (at + w) ≡ bit b (at + w) = h (at + w) (omega arith) (omega arith) in
    let ih : field a at w ≡ field b at w = field-same a b at w (λ i low high. h i low (omega arith)) in
    rw (last, ih) refl

-- a field that lies apart from the bits that changed
pub field-apart : (at width : ℕ) (old new : List ℕ) (i v : ℕ) → SameOutside at width old new → (i + v ≤ at) ⊎ (at + width ≤ i) → field new i v ≡ field old i v
field-apart at width old new i v same away =
    field-same new old i v (λ k low high. same k (elim away [ inl before ↦ inl (omega arith) | inr behind ↦ inr (omega arith) ]))

-- a number below the power whose bits are those of the octets is the field
pub field-only : (o : List ℕ) (at w n : ℕ) → n < 2 ^ w → ((i : ℕ) → i < w → n / 2 ^ (w - (i + 1)) % 2 ≡ bit o (at + i)) → n ≡ field o at w
field-only o at w n below bits =
    same_from_bits_below w n (field o at w) below (field-below o at w)
    (λ i h.
    let k : ℕ = w - (i + 1) in
    let e : w - (k + 1) ≡ i = omega arith in
    let p : n / 2 ^ (w - (k + 1)) % 2 ≡ bit o (at + k) = bits k (omega arith) in
    let q : field o at w / 2 ^ (w - (k + 1)) % 2 ≡ bit o (at + k) = field-bit o at w k (omega arith) in
    ap (λ j. n / 2 ^ j % 2) (sym e) ∙ p ∙ sym q ∙ ap (λ j. field o at w / 2 ^ j % 2) e)

-- a field of the first octets
pub field-take : (n : ℕ) (o : List ℕ) (at w : ℕ) → at + w ≤ 8 * n → field (take n o) at w ≡ field o at w
unfolding field bit
field-take n o at zero h = refl
field-take n o at (suc w) h =
    let one : get_or (take n o) ((at + w) / 8) 0 ≡ get_or o ((at + w) / 8) 0 = get_or-take n o ((at + w) / 8) 0 (omega arith) in
    rw (field-take n o at w (omega arith), one) refl

-- a field within a number's octets
pub field_of_octets : (a b : List ℕ) (count n at i w : ℕ) → n < 256 ^ count → at ≡ 8 * length a + i → i + w ≤ 8 * count → field (a ++ (octets count n ++ b)) at w
    ≡ n / 2 ^ (8 * count - (i + w)) % 2 ^ w
field_of_octets a b count n at i w h e room =
    let o = a ++ (octets count n ++ b) in
    let whole : field o (8 * length a) (8 * count) ≡ n = field_between a b count n (8 * length a) (8 * count) h refl refl in
    rw e (field-part o (8 * length a) i w (8 * count) room ∙ ap (λ k. k / 2 ^ (8 * count - (i + w)) % 2 ^ w) whole)

pub has_bits : (o : List ℕ) (at w : ℕ) → HasBits (field o at w) o at w
has_bits o at w = record { below = field-below o at w; digits = λ i h. field-bit o at w i h }

-- a number's octets at the front
pub field_written : (count n : ℕ) (rest : List ℕ) → n < 256 ^ count → field (octets count n ++ rest) 0 (8 * count) ≡ n
field_written count n rest h = field_between [] rest count n 0 (8 * count) h refl refl
