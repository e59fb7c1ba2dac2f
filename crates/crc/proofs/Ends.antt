-- What ends in its check leaves nothing, and so does what differs between two such.
use Rattle.std.proofs.Common.{◌≡◌, ℕ, ◌+◌, ◌-◌, ◌*◌, ◌^◌, ◌<◌, ◌≤◌, true, false, List, length, take, drop, inl, inr, sym, ap, ap₂, ◌∙◌, arith}
use Rattle.std.specs.Int.Bits.{bit_xor, xor_self, xor_zero_r, xor_shifted}
use Rattle.std.proofs.lemmas.Bool.{eqb-true, cases_Bool}
use Rattle.std.proofs.lemmas.List.{length-take-le}
use Rattle.std.proofs.lemmas.Nat.{pow-add, pow_pos}
use Rattle.cfd_bits.specs.Field.{field}
use Rattle.cfd_bits.proofs.Fields.{field-drop}
use Rattle.cfd_bits.proofs.BitFields.{field-below, field-split, field-take}
use Rattle.crc.specs.Division.{remainder}
use Rattle.crc.specs.Checks.{divisor16, crc16_behind, check_from, crc16_of, ends_in_check}
use Rattle.crc.specs.Damage.{IsDamaged, turned}
use Rattle.crc.proofs.Xor.{xor_four, xor_swap}
use Rattle.crc.proofs.Divisions as div
use Rattle.crc.proofs.Detection.{least, most, is_left}

abbrev rem : ℕ → ℕ → ℕ
rem = remainder 16 divisor16

-- what the check of octets of so many bits begins with, in its place
abbrev begun : ℕ → ℕ
begun k = (2 ^ 16 - 1) * 2 ^ k

check_is : (text : List ℕ) (k : ℕ) → 8 * length text ≡ k → crc16_of text ≡ rem (k + 16) (bit_xor (field text 0 k * 2 ^ 16) (begun k))
unfolding crc16_behind check_from
check_is text k e = ap (λ (n : ℕ). rem (n + 16) (bit_xor (field text 0 n * 2 ^ 16) (begun n))) e

ends_leaves : (octets : List ℕ) → 2 ≤ length octets → ends_in_check octets ≡ true → rem (8 * length octets) (bit_xor (field octets 0 (8 * length octets)) (begun (8 * (length octets - 2)))) ≡ 0
ends_leaves octets long whole =
    let n : ℕ = length octets - 2 in
    let k : ℕ = 8 * n in
    let text : List ℕ = take n octets in
    let c : ℕ = field (drop n octets) 0 16 in
    let head : ℕ = field octets 0 k in
    let is : c ≡ crc16_of text = eqb-true c (crc16_of text) whole in
    let len : 8 * length text ≡ k = ap (λ m. 8 * m) (length-take-le n octets (omega arith)) in
    let front : field text 0 k ≡ head = field-take n octets 0 k (omega arith) in
    let left : c ≡ rem (k + 16) (bit_xor (head * 2 ^ 16) (begun k)) =
    is ∙ check_is text k len ∙ ap (λ m. rem (k + 16) (bit_xor (m * 2 ^ 16) (begun k))) front in
    let small : c < 2 ^ 16 = field-below (drop n octets) 0 16 in
    let wide : c < 2 ^ (k + 16) = wider k c small in
    let bits : 8 * length octets ≡ k + 16 = omega arith in
    let behind : field octets (0 + k) 16 ≡ c = sym (field-drop n octets 0 16 ∙ ap (λ at. field octets at 16) (omega arith)) in
    let all : field octets 0 (k + 16) ≡ bit_xor (head * 2 ^ 16) c =
    field-split octets 0 k 16 ∙ ap (λ m. head * 2 ^ 16 + m) behind ∙ sym (xor_shifted head 16 c small) in
    ap (λ m. rem m (bit_xor (field octets 0 m) (begun k))) bits
    ∙ ap (λ m. rem (k + 16) (bit_xor m (begun k))) all
    ∙ ap (rem (k + 16)) (xor_swap (head * 2 ^ 16) c (begun k))
    ∙ div.remainder_xor 16 divisor16 least most (k + 16) (bit_xor (head * 2 ^ 16) (begun k)) c
    ∙ ap₂ bit_xor (sym left) (div.remainder_small 16 divisor16 least most (k + 16) c small wide)
    ∙ xor_self c where
      wider : (k c : ℕ) → c < 2 ^ 16 → c < 2 ^ (k + 16)
      wider k c h =
          let p : 2 ^ (k + 16) ≡ 2 ^ k * 2 ^ 16 = pow-add 2 k 16 in
          let some = pow_pos k in
          omega (arith, p, some, h)

-- what differs between two of these whose checks are right leaves nothing
both_end : (sent came : List ℕ) → length came ≡ length sent → 2 ≤ length sent → ends_in_check sent ≡ true → ends_in_check came ≡ true → rem (8 * length sent) (turned sent came) ≡ 0
both_end sent came len long one other =
    let n : ℕ = 8 * length sent in
    let s : ℕ = field sent 0 n in
    let t : ℕ = field came 0 n in
    let i : ℕ = begun (8 * (length sent - 2)) in
    let first : rem n (bit_xor s i) ≡ 0 = ends_leaves sent long one in
    let second : rem n (bit_xor t i) ≡ 0 =
    sym (ap (λ m. rem (8 * m) (bit_xor (field came 0 (8 * m)) (begun (8 * (m - 2))))) len)
    ∙ ends_leaves came (omega (arith, len)) other in
    let same : bit_xor (bit_xor s i) (bit_xor t i) ≡ bit_xor s t =
    xor_four s i t i ∙ ap (bit_xor (bit_xor s t)) (xor_self i) ∙ xor_zero_r (bit_xor s t) in
    ap (rem n) (sym same)
    ∙ div.remainder_xor 16 divisor16 least most n (bit_xor s i) (bit_xor t i)
    ∙ ap₂ bit_xor first second

pub damage_is_seen : (sent came : List ℕ) → 2 ≤ length sent → length sent ≤ 2048 → ends_in_check sent ≡ true → IsDamaged sent came → ends_in_check came ≡ false
damage_is_seen sent came long few one (len, are) = elim (cases_Bool (ends_in_check came)) [
  | inl other ↦ absurd (is_left (8 * length sent) (turned sent came) (omega (arith, few)) are (both_end sent came len long one other))
  | inr away ↦ away
]
