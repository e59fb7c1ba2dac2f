-- Numerals, tested digit by digit.
use Rattle.std.proofs.Common.{◌≡◌, ℕ, ◌==◌, ◌^◌, ◌<◌, ◌↔◌, ◌&&◌, nat_lt, Bool, true, false, List, [], ◌∷◌, length, refl, sym, Option, Some, None, IsSome, IfSome, ltb-true, lt-ltb, eqb-true, eq-eqb, suc, arith, if◌then◌else◌}
use Rattle.std.specs.Prelude.{option_and_then}
use Rattle.std.specs.List.{list_all}
use Rattle.std.specs.Char.{is_digit, digit_value}
use Rattle.std.specs.Str.Parse.{AllDigits, IsNumeral, digits_value}
use Rattle.std.specs.Prelude.{IsAscii}
use Rattle.cfdp_report.specs.Numbers.{numeral_of, number_of, octet_of}

-- what holds in both cases of a test
pub by_test : (b : Bool) (P : Bool → Type 0) → (b ≡ true → P true) → (b ≡ false → P false) → P b
by_test true P when_true when_false = when_true refl
by_test false P when_true when_false = when_false refl

abbrev pub all_digits : ℕ → List ℕ → Bool
all_digits radix w = list_all (λ octet. is_digit octet radix) w

pub digits-pass : (radix : ℕ) (w : List ℕ) → AllDigits radix w → all_digits radix w ≡ true
digits-pass radix [] all = refl
digits-pass radix (octet ∷ w) all = rw (lt-ltb (digit_value octet) radix all.0, digits-pass radix w all.1) refl

pub pass-digits : (radix : ℕ) (w : List ℕ) → all_digits radix w ≡ true → AllDigits radix w
pass-digits radix [] pass = tt
pass-digits radix (octet ∷ w) pass =
    by_test (is_digit octet radix) (λ b. ((b && all_digits radix w) ≡ true) → (digit_value octet < radix) × AllDigits radix w)
    (λ first rest. (ltb-true (digit_value octet) radix first, pass-digits radix w rest)) (λ _ none. absurd cc) pass

pub numeral-some : (radix : ℕ) (w : List ℕ) → IsNumeral radix w → numeral_of radix w ≡ Some (digits_value radix w)
numeral-some radix [] numeral = absurd (omega (arith, numeral.0))
numeral-some radix (octet ∷ w) numeral = rw (digits-pass radix (octet ∷ w) numeral.1) refl

pub numeral-none : (radix : ℕ) (w : List ℕ) → (IsNumeral radix w → ⊥) → numeral_of radix w ≡ None
numeral-none radix [] none = refl
numeral-none radix (octet ∷ w) none =
    let all = digits_value radix (octet ∷ w) in
    by_test (all_digits radix (octet ∷ w)) (λ b. (if b then Some all else None) ≡ None)
    (λ pass. absurd (none (omega arith, pass-digits radix (octet ∷ w) pass))) (λ _. refl)

pub number-some : (w : List ℕ) → IsNumeral 10 w → digits_value 10 w < 2 ^ 64 → number_of w ≡ Some (digits_value 10 w)
number-some w numeral less = rw (numeral-some 10 w numeral, lt-ltb (digits_value 10 w) (2 ^ 64) less) refl

pub number-none : (w : List ℕ) → (IsNumeral 10 w × (digits_value 10 w < 2 ^ 64) → ⊥) → number_of w ≡ None
number-none [] none = refl
number-none (octet ∷ w) none =
    let all = digits_value 10 (octet ∷ w) in
    by_test (all_digits 10 (octet ∷ w)) (λ b. option_and_then (λ number. if nat_lt number (2 ^ 64) then Some number else None) (if b then Some all else None) ≡ None)
    (λ pass. by_test (nat_lt all (2 ^ 64)) (λ b. (if b then Some all else None) ≡ None)
    (λ less. absurd (none ((omega arith, pass-digits 10 (octet ∷ w) pass), ltb-true all (2 ^ 64) less))) (λ _. refl))
    (λ _. refl)

-- what a number's word is, is digits
pub number-pass : (w : List ℕ) (n : ℕ) → number_of w ≡ Some n → all_digits 10 w ≡ true
number-pass [] n number = absurd cc
number-pass (octet ∷ w) n number =
    let all = digits_value 10 (octet ∷ w) in
    by_test (all_digits 10 (octet ∷ w)) (λ b. option_and_then (λ number. if nat_lt number (2 ^ 64) then Some number else None) (if b then Some all else None) ≡ Some n → b ≡ true)
    (λ _ _. refl) (λ _ some. absurd cc) number

pub octet_is : (r : Option ℕ) (w : List ℕ) → (IsSome r ↔ ((length w ≡ 2) × AllDigits 16 w)) → IfSome r (λ octet. octet ≡ digits_value 16 w) → r ≡ octet_of w
octet_is (Some x) w some value =
    let both = some.0 refl in
    rw (eq-eqb (length w) 2 both.0, numeral-some 16 w (omega (arith, both.0), both.1), value) refl
octet_is None w some value =
    by_test (length w == 2) (λ b. None ≡ (if b then numeral_of 16 w else None))
    (λ two. sym (numeral-none 16 w (λ numeral. absurd (let t = some.1 (eqb-true (length w) 2 two, numeral.1) in cc)))) (λ _. refl)

-- octets below 128 are ASCII
pub ascii-pass : (text : List ℕ) → IsAscii text → list_all (λ octet. nat_lt octet 128) text ≡ true
ascii-pass [] ascii = refl
ascii-pass (octet ∷ text) ascii = rw (lt-ltb octet 128 (ascii 0), ascii-pass text (λ i. ascii (suc i))) refl
