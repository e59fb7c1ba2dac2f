-- A check with one more octet, and what a table of octets leaves.
use Rattle.std.proofs.Common.{◌≡◌, ℕ, ◌+◌, ◌*◌, ◌/◌, ◌%◌, ◌^◌, ◌<◌, ◌≤◌, List, [], length, get_or, take, refl, sym, ap, ap₂, ◌∙◌, arith, zero-add}
use Rattle.std.specs.Int.Bits.{bit_xor, xor_zero_r}
use Rattle.std.proofs.Math.Nat.{mul-lt-mul_of_pos_right, add-mul, mul_assoc, zero-mul, mul-one}
use Rattle.std.proofs.lemmas.Nat.{xor_comm, pow-add, pow_pos, mod_below, shr_split, shr_high, mod_low, xor_lt, xor_shr, xor_mod}
use Rattle.std.proofs.Math.Pow.{pow_mono}
use Rattle.std.proofs.lemmas.List.{length-take-le}
use lib.Bits.{xor_shifted}
use Rattle.cfd_bits.specs.Field.{field}
use Rattle.cfd_bits.proofs.Fields.{field_octet}
use Rattle.cfd_bits.proofs.BitFields.{field-take}
use Rattle.crc.specs.Division.{remainder, moved}
use Rattle.crc.specs.Checks.{check_from}
use Rattle.crc.proofs.Xor.{xor_swap, xor_shift}
use Rattle.crc.proofs.Divisions.{remainder_below, remainder_xor, remainder_small, remainder_moved, moved_xor, moved_small}

module _ (e g : ℕ) (least : 2 ^ (e + 8) ≤ g) (most : g < 2 ^ (e + 8 + 1)) where
  -- what is divided, of the first octets
  abbrev divided : ℕ → List ℕ → ℕ → ℕ
  divided s o n = bit_xor (field o 0 (8 * n) * 2 ^ (e + 8)) (s * 2 ^ (8 * n))

  wide : 2 ^ (e + 8) ≡ 2 ^ e * 256
  wide = pow-add 2 e 8

  octet_fits : (b : ℕ) → b < 256 → b * 2 ^ e < 2 ^ (e + 8)
  octet_fits b small = omega (arith, wide, mul-lt-mul_of_pos_right {m = b} {n = 256} {k = 2 ^ e} small (pow_pos e))

  -- with one more octet
  divided_more : (s : ℕ) (o : List ℕ) (n b : ℕ) → get_or o n 0 ≡ b → b < 256 → divided s o (n + 1) ≡ bit_xor (divided s o n) (b * 2 ^ e) * 2 ^ 8
  divided_more s o n b is small =
      let f : ℕ = field o 0 (8 * n) in
      let y : ℕ = b * 2 ^ e in
      let p : ℕ = 2 ^ (e + 8) in
      let there : get_or o (0 + n) 0 ≡ b = ap (λ i. get_or o i 0) (zero-add n) ∙ is in
      let more : field o 0 (8 * (n + 1)) ≡ 256 * f + b = field_octet o 0 0 n b (8 * (n + 1)) refl there small refl in
      let bp : b * p ≡ y * 256 = ap (λ m. b * m) wide ∙ sym (mul_assoc b (2 ^ e) 256) in
      let parts : (256 * f + b) * p ≡ 256 * f * p + b * p = add-mul (256 * f) b p in
      let front : 256 * f * p ≡ 256 * (f * p) = mul_assoc 256 f p in
      let sum : (256 * f + b) * p ≡ (f * p + y) * 2 ^ 8 = omega (arith, bp, parts, front) in
      let longer : 8 * (n + 1) ≡ 8 * n + 8 = omega arith in
      let behind : s * 2 ^ (8 * (n + 1)) ≡ s * 2 ^ (8 * n) * 2 ^ 8 =
      ap (λ k. s * 2 ^ k) longer ∙ ap (λ m. s * m) (pow-add 2 (8 * n) 8) ∙ sym (mul_assoc s (2 ^ (8 * n)) 256) in
      ap₂ bit_xor (ap (λ m. m * p) more ∙ sum) behind
      ∙ ap (λ m. bit_xor (m * 2 ^ 8) (s * 2 ^ (8 * n) * 2 ^ 8)) (sym (xor_shifted f (e + 8) y (octet_fits b small)))
      ∙ xor_shift (bit_xor (f * p) y) (s * 2 ^ (8 * n)) 8
      ∙ ap (λ m. m * 2 ^ 8) (xor_swap (f * p) y (s * 2 ^ (8 * n)))

  -- the check of the first octets
  front_is : (s : ℕ) (o : List ℕ) (n : ℕ) → n ≤ length o → check_from (e + 8) g s (take n o) ≡ remainder (e + 8) g (8 * n + (e + 8)) (divided s o n)
  unfolding check_from
  front_is s o n h =
      let len : length (take n o) ≡ n = length-take-le n o h in
      ap (λ k. remainder (e + 8) g (8 * k + (e + 8)) (bit_xor (field (take n o) 0 (8 * k) * 2 ^ (e + 8)) (s * 2 ^ (8 * k)))) len
      ∙ ap (λ m. remainder (e + 8) g (8 * n + (e + 8)) (bit_xor (m * 2 ^ (e + 8)) (s * 2 ^ (8 * n)))) (field-take n o 0 (8 * n) (omega arith))

  pub check_below : (s : ℕ) (o : List ℕ) → check_from (e + 8) g s o < 2 ^ (e + 8)
  unfolding check_from
  check_below s o = remainder_below (e + 8) g least most _ _

  pub check_none : (s : ℕ) → s < 2 ^ (e + 8) → check_from (e + 8) g s [] ≡ s
  unfolding check_from field
  check_none s h =
      let none : bit_xor (0 * 2 ^ (e + 8)) (s * 1) ≡ s = ap₂ bit_xor (zero-mul (2 ^ (e + 8))) (mul-one s) in
      let few : 0 + (e + 8) ≡ e + 8 = omega arith in
      ap₂ (remainder (e + 8) g) few none ∙ remainder_small (e + 8) g least most (e + 8) s h h

  pub check_more : (s : ℕ) (o : List ℕ) (n b : ℕ) → n < length o → get_or o n 0 ≡ b → b < 256
      → check_from (e + 8) g s (take (n + 1) o) ≡ moved (e + 8) g 8 (bit_xor (check_from (e + 8) g s (take n o)) (b * 2 ^ e))
  check_more s o n b h is small =
      let c : ℕ = 8 * n + (e + 8) in
      let y : ℕ = b * 2 ^ e in
      let fits : y < 2 ^ (e + 8) = octet_fits b small in
      let fits' : y < 2 ^ c = omega (arith, pow_mono {i = e + 8} {j = c} (omega arith)) in
      let longer : 8 * (n + 1) + (e + 8) ≡ c + 8 = omega arith in
      front_is s o (n + 1) (omega arith)
      ∙ ap₂ (remainder (e + 8) g) longer (divided_more s o n b is small)
      ∙ remainder_moved (e + 8) g least most c 8 (bit_xor (divided s o n) y)
      ∙ ap (moved (e + 8) g 8)
      (remainder_xor (e + 8) g least most c (divided s o n) y
      ∙ ap₂ bit_xor (sym (front_is s o n (omega arith))) (remainder_small (e + 8) g least most c y fits fits'))

  -- the first octet by itself, and the others moved
  pub moved_octet : (t : ℕ) → t < 2 ^ (e + 8) → moved (e + 8) g 8 t ≡ bit_xor (moved (e + 8) g 8 (t / 2 ^ e * 2 ^ e)) (t % 2 ^ e * 2 ^ 8)
  moved_octet t h =
      let hi : ℕ = t / 2 ^ e * 2 ^ e in
      let lo : ℕ = t % 2 ^ e in
      let split : hi + lo ≡ t = shr_split t e in
      let some : 0 < 2 ^ e = pow_pos e in
      let low : lo < 2 ^ e = mod_below t (2 ^ e) some in
      let cut : t ≡ bit_xor hi lo = sym split ∙ sym (xor_shifted (t / 2 ^ e) e lo low) in
      let small : lo * 2 ^ 8 < 2 ^ (e + 8) = omega (arith, wide) in
      ap (moved (e + 8) g 8) cut
      ∙ moved_xor (e + 8) g least most 8 hi lo (omega arith) (omega (arith, wide))
      ∙ ap (bit_xor (moved (e + 8) g 8 hi)) (moved_small (e + 8) g least most 8 lo small)

  -- if an octet is added to the highest octet of a check
  pub octet_step : (c b p : ℕ) → c < 2 ^ (e + 8) → b < 256 → p ≡ bit_xor (c / 2 ^ e) b
      → moved (e + 8) g 8 (bit_xor c (b * 2 ^ e)) ≡ bit_xor (moved (e + 8) g 8 (p * 2 ^ e)) (c % 2 ^ e * 2 ^ 8)
  octet_step c b p hc hb is =
      let y : ℕ = b * 2 ^ e in
      let t : ℕ = bit_xor c y in
      let fits : t < 2 ^ (e + 8) = xor_lt (e + 8) c y hc (octet_fits b hb) in
      let some : 0 < 2 ^ e = pow_pos e in
      let none : y ≡ y + 0 = omega arith in
      let high : t / 2 ^ e ≡ p = xor_shr c y e ∙ ap (bit_xor (c / 2 ^ e)) (ap (λ m. m / 2 ^ e) none ∙ shr_high b e 0 some) ∙ sym is in
      let low : t % 2 ^ e ≡ c % 2 ^ e = xor_mod c y e ∙ ap (bit_xor (c % 2 ^ e)) (ap (λ m. m % 2 ^ e) none ∙ mod_low b e 0 some) ∙ xor_zero_r (c % 2 ^ e) in
      moved_octet t fits ∙ ap₂ (λ m n. bit_xor (moved (e + 8) g 8 (m * 2 ^ e)) (n * 2 ^ 8)) high low

  -- what a check begins with is moved by its octets
  pub check_begun : (s : ℕ) (o : List ℕ) → s < 2 ^ (e + 8) → check_from (e + 8) g s o ≡ bit_xor (moved (e + 8) g (8 * length o) s) (check_from (e + 8) g 0 o)
  unfolding check_from
  check_begun s o h =
      let k : ℕ = 8 * length o in
      let c : ℕ = k + (e + 8) in
      let text : ℕ = field o 0 k * 2 ^ (e + 8) in
      let turned : c ≡ e + 8 + k = omega arith in
      let start : remainder (e + 8) g c (s * 2 ^ k) ≡ moved (e + 8) g k s =
      ap (λ m. remainder (e + 8) g m (s * 2 ^ k)) turned
      ∙ remainder_moved (e + 8) g least most (e + 8) k s
      ∙ ap (moved (e + 8) g k) (remainder_small (e + 8) g least most (e + 8) s h h) in
      let none : bit_xor text (0 * 2 ^ k) ≡ text = ap (bit_xor text) (zero-mul (2 ^ k)) ∙ xor_zero_r text in
      remainder_xor (e + 8) g least most c text (s * 2 ^ k)
      ∙ xor_comm (remainder (e + 8) g c text) (remainder (e + 8) g c (s * 2 ^ k))
      ∙ ap₂ bit_xor start (ap (remainder (e + 8) g c) (sym none))
