-- Numbers in decimal digits, between a front and the end of their line.
use Rattle.std.proofs.Common.{◌≡◌, ◌≢◌, ◌++◌, ◌<◌, ◌^◌, ◌∙◌, ℕ, List, Some, length, get_or, drop, arith, ap}
use Rattle.std.specs.Prelude.{decimal}
use Rattle.std.proofs.lemmas.Fmt.{decimal_is_IsNumeral}
use Rattle.std.proofs.lemmas.Str.Parse.{digit_at}
use Rattle.std.proofs.Math.Seq.{drop-append_seam}
use Rattle.cfdp_report.specs.Numbers.{number_of}
use Rattle.cfdp_report.proofs.Numerals.{number-some}

-- a number that is written in digits is read back
pub number-decimal : (n : ℕ) → n < 2 ^ 64 → number_of (decimal n) ≡ Some n
number-decimal n less =
    let is = decimal_is_IsNumeral n less in
    number-some (decimal n) is.0 (omega (arith, is.1, less)) ∙ ap (λ (m : ℕ). Some m) is.1

-- no line ends in its digits
pub no_line_feed : (n : ℕ) → n < 2 ^ 64 → (i : ℕ) → i < length (decimal n) → get_or (decimal n) i 0 ≢ 10
no_line_feed n less i within =
    let digit = digit_at (decimal n) i (decimal_is_IsNumeral n less).0.1 within in
    λ feed. omega (arith, digit.0, feed)

-- what stands after a front
pub behind_front : (front text rest x : List ℕ) (k : ℕ) → k ≡ length front → x ≡ drop k text → text ≡ front ++ rest → x ≡ rest
behind_front front text rest x k is cut whole =
    cut ∙ ap (λ (m : ℕ). drop m text) is ∙ ap (λ (l : List ℕ). drop (length front) l) whole ∙ drop-append_seam front rest
