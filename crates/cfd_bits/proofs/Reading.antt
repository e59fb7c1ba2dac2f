-- How the octets that hold a field make up its number.
use Rattle.std.proofs.Common.{◌≡◌, ℕ, ◌+◌, ◌-◌, ◌*◌, ◌/◌, ◌%◌, ◌^◌, ◌<◌, ◌≤◌, List, get_or, sym, ap, ◌∙◌, arith}
use Rattle.std.proofs.lemmas.Nat.{one_shl, shr_below}
use Rattle.std.proofs.Math.Nat.{mod-eq_of_lt, div-one, pow-le-pow_right}
use Rattle.cfd_bits.specs.Field.{field}
use Rattle.cfd_bits.proofs.Fields.{field_in_octet}
use Rattle.cfd_bits.proofs.BitFields.{field-split, field-below, field-front}

pub field_fits : (o : List ℕ) (at n : ℕ) → n ≤ 64 → field o at n < 2 ^ 64
field_fits o at n h =
    let p : 2 ^ n ≤ 2 ^ 64 = pow-le-pow_right {n = 2} (omega arith) {i = n} {j = 64} h in
    omega (arith, field-below o at n)

-- the bits of the first octet from bit `at` on
pub front_octet : (o : List ℕ) (at b : ℕ) → b ≡ get_or o (at / 8) 0 → b % (1 * 2 ^ (8 - at % 8) % 2 ^ 64) ≡ field o at (8 - at % 8)
front_octet o at b e =
    let j : ℕ = at % 8 in
    let t : ℕ = 8 - j in
    let zero_left : 8 - j - t ≡ 0 = omega arith in
    let power : 1 * 2 ^ t % 2 ^ 64 ≡ 2 ^ t = one_shl t 64 (omega arith) in
    let it : field o at t ≡ b / 2 ^ (8 - j - t) % 2 ^ t = field_in_octet o at t (at / 8) j b (omega arith) (omega arith) (sym e) in
    ap (λ n. b % n) power ∙ ap (λ n. n % 2 ^ t) (sym (div-one b)) ∙ ap (λ n. b / 2 ^ n % 2 ^ t) (sym zero_left) ∙ sym it

-- a field that lies in the first octet
pub front_field : (o : List ℕ) (at w b : ℕ) → b ≡ get_or o (at / 8) 0 → w ≤ 8 - at % 8 → b % (1 * 2 ^ (8 - at % 8) % 2 ^ 64) / 2 ^ (8 - at % 8 - w) ≡ field o at w
front_field o at w b e h = ap (λ n. n / 2 ^ (8 - at % 8 - w)) (front_octet o at b e) ∙ field-front o at w (8 - at % 8) h

-- one more octet
pub octet_more : (o : List ℕ) (at n p b m : ℕ) → at + n ≡ 8 * p → b ≡ get_or o p 0 → b < 256 → m ≡ n + 8 → field o at m ≡ 256 * field o at n + b
octet_more o at n p b m a e small eq =
    let it : field o (at + n) 8 ≡ b / 2 ^ 0 % 2 ^ 8 = field_in_octet o (at + n) 8 p 0 b (omega arith) (omega arith) (sym e) in
    let same : b / 2 ^ 0 % 2 ^ 8 ≡ b = omega arith in
    let split : field o at (n + 8) ≡ field o at n * 2 ^ 8 + field o (at + n) 8 = field-split o at n 8 in
    let whole : field o at m ≡ field o at (n + 8) = ap (λ k. field o at k) eq in
    omega (arith, it, same, split, whole)

-- and the first bits of the octet after it
pub bits_more : (o : List ℕ) (at n p r b m : ℕ) → at + n ≡ 8 * p → b ≡ get_or o p 0 → b < 256 → r ≤ 8 → m ≡ n + r → field o at m ≡ field o at n * 2 ^ r + b / 2 ^ (8 - r)
bits_more o at n p r b m a e small few eq =
    let it : field o (at + n) r ≡ b / 2 ^ (8 - 0 - r) % 2 ^ r = field_in_octet o (at + n) r p 0 b (omega arith) (omega arith) (sym e) in
    let sum : r + (8 - r) ≡ 8 = omega arith in
    let below : b < 2 ^ (r + (8 - r)) = rw sum small in
    let same : b / 2 ^ (8 - r) % 2 ^ r ≡ b / 2 ^ (8 - r) = mod-eq_of_lt (shr_below b r (8 - r) below) in
    let gone : 8 - 0 - r ≡ 8 - r = omega arith in
    ap (λ k. field o at k) eq ∙ field-split o at n r ∙ ap (λ k. field o at n * 2 ^ r + k) (it ∙ ap (λ k. b / 2 ^ k % 2 ^ r) gone ∙ same)

-- the bits of the octet after it, as they are shifted in
pub shifted_in : (o : List ℕ) (at n p r b m v : ℕ) → v ≡ field o at n → at + n ≡ 8 * p → b ≡ get_or o p 0 → b < 256 → r ≤ 8 → m ≡ n + r → m ≤ 64 → v * 2 ^ r % 2 ^ 64 + b / 2 ^ (8 - r) ≡ field o at m
shifted_in o at n p r b m v is a e small few eq narrow =
    let whole : field o at m ≡ field o at n * 2 ^ r + b / 2 ^ (8 - r) = bits_more o at n p r b m a e small few eq in
    let fits : field o at n * 2 ^ r < 2 ^ 64 = omega (arith, field_fits o at m narrow, whole) in
    ap (λ k. k * 2 ^ r % 2 ^ 64 + b / 2 ^ (8 - r)) is ∙ ap (λ k. k + b / 2 ^ (8 - r)) (mod-eq_of_lt fits) ∙ sym whole
