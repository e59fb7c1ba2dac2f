-- Reading decimal digits from the left.
use Rattle.std.proofs.Common.{◌≡◌, ℕ, ◌+◌, ◌-◌, ◌*◌, ◌<◌, ◌≤◌, List, length, get_or, take, arith}
use Rattle.std.specs.Char.{digit_value}
use Rattle.std.specs.Int.{IsInRange, IsOutOfRange}
use Rattle.std.specs.Str.Parse.{AllDigits, digits_value}
use Rattle.std.proofs.lemmas.Str.Parse.{digit_at, digits_value-take-le}
use Rattle.std.proofs.lemmas.Int.Digits.{digits_value_more, digits_more}
use Rattle.std.proofs.Common.{⊎_elim}

-- a decimal digit stands for what lies between it and '0'
pub digit_value-decimal : (c : ℕ) → 48 ≤ c → c ≤ 57 → digit_value c ≡ c - 48
digit_value-decimal c low high = grind arith

-- one more digit is read
pub one_more : (w : List ℕ) (i n : ℕ) → i < length w → IsInRange 48 57 (get_or w i 0)
    → AllDigits 10 (take i w) → n ≡ digits_value 10 (take i w)
    → AllDigits 10 (take (i + 1) w) × (n * 10 + (get_or w i 0 - 48) ≡ digits_value 10 (take (i + 1) w))
one_more w i n within digit front value =
    let v : digit_value (get_or w i 0) ≡ get_or w i 0 - 48 = digit_value-decimal (get_or w i 0) digit.0 digit.1 in
    let more : digits_value 10 (take (i + 1) w) ≡ digits_value 10 (take i w) * 10 + digit_value (get_or w i 0) = digits_value_more 10 w i within in (
      digits_more 10 w i within front (omega (arith, v, digit.1)),
      omega (arith, v, more, value),
    )

-- the number of the digits so far, with one more, is at most the whole number
pub front_is_less : (w : List ℕ) (i n : ℕ) → i < length w → IsInRange 48 57 (get_or w i 0)
    → n ≡ digits_value 10 (take i w) → n * 10 + (get_or w i 0 - 48) ≤ digits_value 10 w
front_is_less w i n within digit value =
    let v : digit_value (get_or w i 0) ≡ get_or w i 0 - 48 = digit_value-decimal (get_or w i 0) digit.0 digit.1 in
    let more : digits_value 10 (take (i + 1) w) ≡ digits_value 10 (take i w) * 10 + digit_value (get_or w i 0) = digits_value_more 10 w i within in
    let whole : digits_value 10 (take (i + 1) w) ≤ digits_value 10 w = digits_value-take-le 10 w (i + 1) (omega arith) in
    omega (arith, v, more, value, whole)

-- what is no digit stands in no numeral
pub not_a_digit : (w : List ℕ) (i : ℕ) → i < length w → IsOutOfRange 48 57 (get_or w i 0) → AllDigits 10 w → ⊥
not_a_digit w i within out all =
    let digit = digit_at w i all within in
    ⊎_elim (λ low. absurd (omega (arith, low, digit.0))) (λ high. absurd (omega (arith, high, digit.1))) out
