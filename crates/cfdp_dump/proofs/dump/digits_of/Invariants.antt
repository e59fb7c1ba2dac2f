use Rattle.std.proofs.Common.{◌≡◌, ◌+◌, ◌++◌, [], length}
use Rattle.std.specs.List.{flat_map}
use Rattle.std.specs.Option.{option_map_or}
use Rattle.cfdp_dump.specs.Dump.Rows.{bare}
use Rattle.cfdp_report.specs.Words.{parts}
use Rattle.cfdp_dump.proofs.dump.digits_of.Given as goal

-- the digits of the words so far, with those of what is left, are all
abbrev pub invariant-loop-rest : goal.invariant-loop-rest
invariant-loop-rest l =
    l.digits.items ++ flat_map bare (option_map_or (λ rest. parts 32 rest.now) l.rest [])
    ≡ flat_map bare (parts 32 l.line)

-- each word takes an octet at least, its space
abbrev pub decreases-loop-rest : goal.decreases-loop-rest
decreases-loop-rest l = option_map_or (λ rest. length rest.now + 1) l.rest 0
