-- A field written within one octet.
use Rattle.std.proofs.Common.{◌≡◌, ℕ, ◌+◌, ◌-◌, ◌*◌, ◌/◌, ◌%◌, ◌^◌, ◌<◌, ◌≤◌, List, length, get_or, set, refl, sym, ap, ◌∙◌, arith, inl, inr, get_or-set_same, get_or-set_other}
use Rattle.std.proofs.lemmas.Bool.{cases_eq}
use Rattle.std.proofs.lemmas.Nat.{pow-add, shr_high, mod_low, shr-shr, shr_split, pow_pos, mod_below, mul-add-lt, div_below, one_shl}
use Rattle.std.proofs.Math.Nat.{mod-eq_of_lt, le-mul_of_pos_right}
use Rattle.std.proofs.lemmas.Nat.Bits.{bit_at_cat_low, bit_at_cat_high}
use Rattle.cfd_bits.specs.Field.{bit, field, SameOutside}
use Rattle.cfd_bits.proofs.Fields.{field_in_octet}

-- the octet b with w bits from its bit j on changed to v
abbrev pub changed : ℕ → ℕ → ℕ → ℕ → ℕ
changed b j w v = (b / 2 ^ (8 - j) * 2 ^ w + v) * 2 ^ (8 - (j + w)) + b % 2 ^ (8 - (j + w))

pub changed-field : (b j w v : ℕ) → v < 2 ^ w → changed b j w v / 2 ^ (8 - j - w) % 2 ^ w ≡ v
changed-field b j w v h =
    let k : ℕ = 8 - (j + w) in
    let e : 8 - j - w ≡ k = omega arith in
    let low : b % 2 ^ k < 2 ^ k = mod_below b (2 ^ k) (pow_pos k) in
    ap (λ n. changed b j w v / 2 ^ n % 2 ^ w) e
    ∙ ap (λ n. n % 2 ^ w) (shr_high (b / 2 ^ (8 - j) * 2 ^ w + v) k (b % 2 ^ k) low)
    ∙ mod_low (b / 2 ^ (8 - j)) w v h

pub changed-before : (b j w v i : ℕ) → v < 2 ^ w → j + w ≤ 8 → i < j → changed b j w v / 2 ^ (7 - i) % 2 ≡ b / 2 ^ (7 - i) % 2
changed-before b j w v i h room before =
    let k : ℕ = 8 - (j + w) in
    let low : b % 2 ^ k < 2 ^ k = mod_below b (2 ^ k) (pow_pos k) in
    let r : ℕ = 7 - i - (8 - j) in
    let one : 7 - i - k - w ≡ r = omega arith in
    let two : (8 - j) + r ≡ 7 - i = omega arith in
    bit_at_cat_high (b / 2 ^ (8 - j) * 2 ^ w + v) k (b % 2 ^ k) (7 - i) low (omega arith)
    ∙ bit_at_cat_high (b / 2 ^ (8 - j)) w v (7 - i - k) h (omega arith)
    ∙ ap (λ n. b / 2 ^ (8 - j) / 2 ^ n % 2) one
    ∙ ap (λ n. n % 2) (shr-shr b (8 - j) r)
    ∙ ap (λ n. b / 2 ^ n % 2) two

pub changed-behind : (b j w v i : ℕ) → j + w ≤ i → i < 8 → changed b j w v / 2 ^ (7 - i) % 2 ≡ b / 2 ^ (7 - i) % 2
changed-behind b j w v i behind small =
    let k : ℕ = 8 - (j + w) in
    let low : 7 - i < k = omega arith in
    bit_at_cat_low (b / 2 ^ (8 - j) * 2 ^ w + v) k (b % 2 ^ k) (7 - i) low
    ∙ sym (bit_at_cat_low (b / 2 ^ k) k (b % 2 ^ k) (7 - i) low)
    ∙ ap (λ n. n / 2 ^ (7 - i) % 2) (shr_split b k)

-- the changed octet is an octet
pub changed-below : (b j w v : ℕ) → b < 256 → v < 2 ^ w → j + w ≤ 8 → changed b j w v < 256
changed-below b j w v small h room =
    let k : ℕ = 8 - (j + w) in
    let low : b % 2 ^ k < 2 ^ k = mod_below b (2 ^ k) (pow_pos k) in
    let whole : 2 ^ j * 2 ^ (8 - j) ≡ 256 = sym (pow-add 2 j (8 - j)) ∙ (let e : j + (8 - j) ≡ 8 = omega arith in ap (λ n. 2 ^ n) e) in
    let front : b / 2 ^ (8 - j) < 2 ^ j = div_below b (2 ^ (8 - j)) (2 ^ j) (pow_pos (8 - j)) (omega arith) in
    let two : b / 2 ^ (8 - j) * 2 ^ w + v < 2 ^ w * 2 ^ j = mul-add-lt (b / 2 ^ (8 - j)) (2 ^ w) v (2 ^ j) front h in
    let three : changed b j w v < 2 ^ k * (2 ^ w * 2 ^ j) = mul-add-lt (b / 2 ^ (8 - j) * 2 ^ w + v) (2 ^ k) (b % 2 ^ k) (2 ^ w * 2 ^ j) two low in
    let sum : k + (w + j) ≡ 8 = omega arith in
    let all : 2 ^ k * (2 ^ w * 2 ^ j) ≡ 256 = ap (λ n. 2 ^ k * n) (sym (pow-add 2 w j)) ∙ sym (pow-add 2 k (w + j)) ∙ ap (λ n. 2 ^ n) sum in
    omega (arith, three, all)

-- as the code computes it, in 32 bits
pub changed-code : (b j w v : ℕ) → b < 256 → v < 2 ^ w → j + w ≤ 8 → (b / 2 ^ (8 - j) * 2 ^ w % 2 ^ 32 + v) * 2 ^ (8 - (j + w)) % 2 ^ 32 + b % (1 * 2 ^ (8 - (j + w)) % 2 ^ 32) ≡ changed b j w v
changed-code b j w v small h room =
    let k : ℕ = 8 - (j + w) in
    let x : ℕ = b / 2 ^ (8 - j) * 2 ^ w + v in
    let whole : changed b j w v < 256 = changed-below b j w v small h room in
    let most : x ≤ x * 2 ^ k = le-mul_of_pos_right x (pow_pos k) in
    let one : b / 2 ^ (8 - j) * 2 ^ w % 2 ^ 32 ≡ b / 2 ^ (8 - j) * 2 ^ w = mod-eq_of_lt (omega arith) in
    let two : x * 2 ^ k % 2 ^ 32 ≡ x * 2 ^ k = mod-eq_of_lt (omega arith) in
    let three : 1 * 2 ^ k % 2 ^ 32 ≡ 2 ^ k = one_shl k 32 (omega arith) in
    ap (λ n. (n + v) * 2 ^ k % 2 ^ 32 + b % (1 * 2 ^ k % 2 ^ 32)) one ∙ ap (λ n. n + b % (1 * 2 ^ k % 2 ^ 32)) two ∙ ap (λ n. x * 2 ^ k + b % n) three

-- the bits of the octet at index p are changed, and no others
pub set-outside : (o : List ℕ) (p j w v : ℕ) → v < 2 ^ w → j + w ≤ 8 → p < length o → SameOutside (8 * p + j) w o (set o p (changed (get_or o p 0) j w v))
unfolding bit
set-outside o p j w v h room inside i away =
    let new : List ℕ = set o p (changed (get_or o p 0) j w v) in
    let there : i / 8 ≡ p → get_or new (i / 8) 0 / 2 ^ (7 - i % 8) % 2 ≡ get_or o (i / 8) 0 / 2 ^ (7 - i % 8) % 2 = λ (e : i / 8 ≡ p).
    let now : get_or new (i / 8) 0 ≡ changed (get_or o p 0) j w v = ap (λ n. get_or new n 0) e ∙ get_or-set_same o p (changed (get_or o p 0) j w v) 0 inside in
    let was : get_or o (i / 8) 0 ≡ get_or o p 0 = ap (λ n. get_or o n 0) e in
    let kept : changed (get_or o p 0) j w v / 2 ^ (7 - i % 8) % 2 ≡ get_or o p 0 / 2 ^ (7 - i % 8) % 2 =
    elim away [ inl before ↦ changed-before (get_or o p 0) j w v (i % 8) h room (omega arith) | inr behind ↦ changed-behind (get_or o p 0) j w v (i % 8) (omega arith) (omega arith) ] in
    ap (λ n. n / 2 ^ (7 - i % 8) % 2) now ∙ kept ∙ sym (ap (λ n. n / 2 ^ (7 - i % 8) % 2) was) in
    let other : (i / 8 ≡ p → ⊥) → get_or new (i / 8) 0 / 2 ^ (7 - i % 8) % 2 ≡ get_or o (i / 8) 0 / 2 ^ (7 - i % 8) % 2 = λ (ne : i / 8 ≡ p → ⊥).
    ap (λ n. n / 2 ^ (7 - i % 8) % 2) (get_or-set_other o p (i / 8) (changed (get_or o p 0) j w v) 0 ne) in
    elim (cases_eq (i / 8) p) [ inl e ↦ there e | inr ne ↦ other ne ]

-- the field that was changed is the value
pub set-field : (o : List ℕ) (p j w v : ℕ) → v < 2 ^ w → j + w ≤ 8 → p < length o → field (set o p (changed (get_or o p 0) j w v)) (8 * p + j) w ≡ v
set-field o p j w v h room inside =
    field_in_octet (set o p (changed (get_or o p 0) j w v)) (8 * p + j) w p j (changed (get_or o p 0) j w v) refl room (get_or-set_same o p (changed (get_or o p 0) j w v) 0 inside)
    ∙ changed-field (get_or o p 0) j w v h
