-- Numbers in words, as they are read and written.
use Rattle.std.specs.Prelude.{◌^◌, ◌-◌, ℕ, ◌==◌, true, nat_lt, List, [], ◌∷◌, ◌++◌, length, replicate, if◌then◌else◌, Option, Some, None, option_and_then}
use Rattle.std.specs.List.{list_all}
use Rattle.std.specs.Char.{is_digit}
use Rattle.std.specs.Fmt.{digits}
use Rattle.std.specs.Str.Parse.{digits_value}

-- the number that digits of this radix spell, one at least
abbrev pub numeral_of : ℕ → List ℕ → Option ℕ
numeral_of radix [] = None
numeral_of radix (digit ∷ rest) =
    if list_all (λ octet. is_digit octet radix) (digit ∷ rest)
    then Some (digits_value radix (digit ∷ rest)) else None

-- a number: decimal digits, and below 2^64
abbrev pub number_of : List ℕ → Option ℕ
number_of word = option_and_then (λ number. if nat_lt number (2 ^ 64) then Some number else None)
    (numeral_of 10 word)

-- an octet: two hexadecimal digits, in either case
abbrev pub octet_of : List ℕ → Option ℕ
octet_of word = if length word == 2 then numeral_of 16 word else None

-- a number as eight upper-case hexadecimal digits
abbrev pub hex_number_text : ℕ → List ℕ
hex_number_text number = let numeral = digits 16 true number in replicate (8 - length numeral) 48
    ++ numeral
