-- Octets that were loaded as a number in reverse order, and reversed again.
use Rattle.std.proofs.Common.{◌≡◌, ℕ, zero, suc, ◌+◌, ◌*◌, ◌^◌, ◌<◌, List, [], ◌∷◌, get_or, refl, sym, ap, ◌∙◌, arith}
use Rattle.std.specs.Int.{w32, w64, from_le_bytes, from_be_bytes, to_le_bytes, to_be_bytes, swap_bytes}
use Rattle.std.proofs.lemmas.Nat.{le_bytes_4, le_bytes_8, be_bytes_4, be_bytes_8}
use Rattle.cfd_bits.specs.Field.{field, octets}
use Rattle.cfd_bits.proofs.BitFields.{field-below_octets}
use Rattle.cfd_bits.proofs.Fields.{IsBytes, field_octet}

four_below : (a b c d : ℕ) → a < 256 → b < 256 → c < 256 → d < 256 → (i : ℕ) → get_or (a ∷ b ∷ c ∷ d ∷ []) i 0 < 256
four_below a b c d h0 h1 h2 h3 zero = h0
four_below a b c d h0 h1 h2 h3 (suc zero) = h1
four_below a b c d h0 h1 h2 h3 (suc (suc zero)) = h2
four_below a b c d h0 h1 h2 h3 (suc (suc (suc zero))) = h3
four_below a b c d h0 h1 h2 h3 (suc (suc (suc (suc i)))) = omega arith

four_spelled : (o : List ℕ) (a b c d : ℕ) → get_or o 0 0 ≡ a → get_or o 1 0 ≡ b → get_or o 2 0 ≡ c → get_or o 3 0 ≡ d → a < 256 → b < 256 → c < 256 → d < 256 → field o 0 32 ≡ a * 16777216 + b * 65536
    + c * 256 + d
four_spelled o a b c d ea eb ec ed ha hb hc hd =
    let f0 : field o 0 0 < 1 = field-below_octets o 0 0 in
    let f1 : field o 0 8 ≡ 256 * field o 0 0 + a = field_octet o 0 0 0 a 8 refl ea ha refl in
    let f2 : field o 0 16 ≡ 256 * field o 0 8 + b = field_octet o 0 0 1 b 16 refl eb hb refl in
    let f3 : field o 0 24 ≡ 256 * field o 0 16 + c = field_octet o 0 0 2 c 24 refl ec hc refl in
    let f4 : field o 0 32 ≡ 256 * field o 0 24 + d = field_octet o 0 0 3 d 32 refl ed hd refl in
    omega (arith, f0, f1, f2, f3, f4)

four_turned : (a b c d n : ℕ) → a < 256 → b < 256 → c < 256 → d < 256 → n ≡ from_le_bytes w32 (a ∷ b ∷ c ∷ d ∷ []) → swap_bytes w32 n ≡ a * 16777216 + b * 65536 + c * 256 + d
four_turned a b c d n ha hb hc hd is =
    let back : to_le_bytes w32 n ≡ a ∷ b ∷ c ∷ d ∷ [] = le_bytes_4 (a ∷ b ∷ c ∷ d ∷ []) n refl (four_below a b c d ha hb hc hd) is in
    let whole : swap_bytes w32 n ≡ from_be_bytes w32 (a ∷ b ∷ c ∷ d ∷ []) = ap (from_be_bytes w32) back in
    whole ∙ omega arith

pub four_are_spelled : (o : List ℕ) (n : ℕ) → IsBytes o → n ≡ from_le_bytes w32 (get_or o 0 0 ∷ get_or o 1 0 ∷ get_or o 2 0 ∷ get_or o 3 0 ∷ []) → swap_bytes w32 n ≡ field o 0 32
four_are_spelled o n b is =
    four_turned (get_or o 0 0) (get_or o 1 0) (get_or o 2 0) (get_or o 3 0) n (b 0) (b 1) (b 2) (b 3) is
    ∙ sym (four_spelled o (get_or o 0 0) (get_or o 1 0) (get_or o 2 0) (get_or o 3 0) refl refl refl refl (b 0) (b 1) (b 2) (b 3))

eight_below : (a b c d e f g h : ℕ) → a < 256 → b < 256 → c < 256 → d < 256 → e < 256 → f < 256 → g < 256 → h < 256 → (i : ℕ) → get_or (a ∷ b ∷ c ∷ d ∷ e ∷ f ∷ g ∷ h ∷ []) i 0 < 256
eight_below a b c d e f g h h0 h1 h2 h3 h4 h5 h6 h7 zero = h0
eight_below a b c d e f g h h0 h1 h2 h3 h4 h5 h6 h7 (suc zero) = h1
eight_below a b c d e f g h h0 h1 h2 h3 h4 h5 h6 h7 (suc (suc zero)) = h2
eight_below a b c d e f g h h0 h1 h2 h3 h4 h5 h6 h7 (suc (suc (suc zero))) = h3
eight_below a b c d e f g h h0 h1 h2 h3 h4 h5 h6 h7 (suc (suc (suc (suc i)))) = four_below e f g h h4 h5 h6 h7 i

eight_spelled : (o : List ℕ) (a b c d e f g h : ℕ) → get_or o 0 0 ≡ a → get_or o 1 0 ≡ b → get_or o 2 0 ≡ c → get_or o 3 0 ≡ d → get_or o 4 0 ≡ e → get_or o 5 0 ≡ f → get_or o 6 0 ≡ g
    → get_or o 7 0 ≡ h → a < 256 → b < 256 → c < 256 → d < 256 → e < 256 → f < 256 → g < 256 → h < 256
    → field o 0 64 ≡ (a * 16777216 + b * 65536 + c * 256 + d) * 4294967296 + (e * 16777216 + f * 65536 + g * 256 + h)
eight_spelled o a b c d e f g h ea eb ec ed ee ef eg eh ha hb hc hd he hf hg hh =
    let f4 : field o 0 32 ≡ a * 16777216 + b * 65536 + c * 256 + d = four_spelled o a b c d ea eb ec ed ha hb hc hd in
    let f5 : field o 0 40 ≡ 256 * field o 0 32 + e = field_octet o 0 0 4 e 40 refl ee he refl in
    let f6 : field o 0 48 ≡ 256 * field o 0 40 + f = field_octet o 0 0 5 f 48 refl ef hf refl in
    let f7 : field o 0 56 ≡ 256 * field o 0 48 + g = field_octet o 0 0 6 g 56 refl eg hg refl in
    let f8 : field o 0 64 ≡ 256 * field o 0 56 + h = field_octet o 0 0 7 h 64 refl eh hh refl in
    omega (arith, f4, f5, f6, f7, f8)

eight_turned : (a b c d e f g h n : ℕ) → a < 256 → b < 256 → c < 256 → d < 256 → e < 256 → f < 256 → g < 256 → h < 256 → n ≡ from_le_bytes w64 (a ∷ b ∷ c ∷ d ∷ e ∷ f ∷ g ∷ h ∷ [])
    → swap_bytes w64 n ≡ (a * 16777216 + b * 65536 + c * 256 + d) * 4294967296 + (e * 16777216 + f * 65536 + g * 256 + h)
eight_turned a b c d e f g h n ha hb hc hd he hf hg hh is =
    let back : to_le_bytes w64 n ≡ a ∷ b ∷ c ∷ d ∷ e ∷ f ∷ g ∷ h ∷ [] = le_bytes_8 (a ∷ b ∷ c ∷ d ∷ e ∷ f ∷ g ∷ h ∷ []) n refl (eight_below a b c d e f g h ha hb hc hd he hf hg hh) is in
    let whole : swap_bytes w64 n ≡ from_be_bytes w64 (a ∷ b ∷ c ∷ d ∷ e ∷ f ∷ g ∷ h ∷ []) = ap (from_be_bytes w64) back in
    whole ∙ omega arith

pub eight_are_spelled : (o : List ℕ) (n : ℕ) → IsBytes o
    → n ≡ from_le_bytes w64 (get_or o 0 0 ∷ get_or o 1 0 ∷ get_or o 2 0 ∷ get_or o 3 0 ∷ get_or o 4 0 ∷ get_or o 5 0 ∷ get_or o 6 0 ∷ get_or o 7 0 ∷ []) → swap_bytes w64 n ≡ field o 0 64
eight_are_spelled o n b is =
    eight_turned (get_or o 0 0) (get_or o 1 0) (get_or o 2 0) (get_or o 3 0) (get_or o 4 0) (get_or o 5 0) (get_or o 6 0) (get_or o 7 0) n (b 0) (b 1) (b 2) (b 3) (b 4) (b 5) (b 6) (b 7) is
    ∙ sym (eight_spelled o (get_or o 0 0) (get_or o 1 0) (get_or o 2 0) (get_or o 3 0) (get_or o 4 0) (get_or o 5 0) (get_or o 6 0) (get_or o 7 0) refl refl refl refl refl refl refl refl
    (b 0) (b 1) (b 2) (b 3) (b 4) (b 5) (b 6) (b 7))

-- what is written of a number
pub four_written : (n : ℕ) → n < 2 ^ 32 → to_be_bytes w32 n ≡ octets 4 n
unfolding octets
four_written n fits = be_bytes_4 (octets 4 n) n refl (four_below _ _ _ _ (omega arith) (omega arith) (omega arith) (omega arith)) (omega (arith, fits))

pub eight_written : (n : ℕ) → n < 2 ^ 64 → to_be_bytes w64 n ≡ octets 8 n
unfolding octets
eight_written n fits = be_bytes_8 (octets 8 n) n refl
    (eight_below _ _ _ _ _ _ _ _ (omega arith) (omega arith) (omega arith) (omega arith) (omega arith) (omega arith) (omega arith) (omega arith)) (omega (arith, fits))
