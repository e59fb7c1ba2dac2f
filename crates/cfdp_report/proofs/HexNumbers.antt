-- Numbers that are printed as eight hexadecimal digits.
use Rattle.std.proofs.Common.{◌≡◌, ℕ, ◌-◌, ◌^◌, true, false, List, [], ◌++◌, length, replicate, refl, append-nil, arith}
use Rattle.std.specs.Fmt.{digits, padded_integral, format_spec, char_count}
use Rattle.cfdp_report.specs.Numbers.{hex_number_text}

-- what `{:08X}` writes of these digits
eight_wide : (xs : List ℕ) → padded_integral (format_spec 32 0 4 8 (2 ^ 64 - 1)) false [] xs ≡ replicate (8 - length xs) 48 ++ xs
unfolding padded_integral char_count
eight_wide xs = let same : 8 - length xs - 0 - 0 ≡ 8 - length xs = omega arith in rw (same, append-nil xs) refl

-- what it writes of a number
pub eight_digits : (n : ℕ) → padded_integral (format_spec 32 0 4 8 (2 ^ 64 - 1)) false [] (digits 16 true n) ≡ hex_number_text n
eight_digits n = eight_wide (digits 16 true n)
