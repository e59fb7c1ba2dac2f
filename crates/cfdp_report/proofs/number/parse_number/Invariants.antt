use Rattle.std.proofs.Common.{◌≡◌, ◌<◌, ◌^◌, take}
use Rattle.std.specs.Str.Parse.{AllDigits, digits_value}
use Rattle.cfdp_report.proofs.number.parse_number.Given as goal

-- what stands before are digits, and their number is known
abbrev pub invariant-loop-digit : goal.invariant-loop-digit
invariant-loop-digit l =
    AllDigits 10 (take l.digit-index l.word) × (l.number ≡ digits_value 10 (take l.digit-index l.word)) × (l.number < 2 ^ 64)
