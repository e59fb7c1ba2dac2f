use Rattle.std.proofs.Common.{◌+◌, [], length}
use Rattle.std.specs.Option.{option_map_or}
use Rattle.cfdp_report.specs.Words.{parts}
use Rattle.cfdp_play.specs.Load.{lines_of}
use Rattle.cfdp_play.proofs.Loads.{Leaves}
use Rattle.cfdp_play.proofs.load.excess_of.Given as goal

-- what was asked for, and what the lines that are left ask for, is what all ask for
abbrev pub invariant-loop-rest : goal.invariant-loop-rest
invariant-loop-rest l =
    Leaves l.load (option_map_or (λ rest. parts 10 rest.now) l.rest []) (lines_of l.text)

-- each line takes an octet at least, its line feed
abbrev pub decreases-loop-rest : goal.decreases-loop-rest
decreases-loop-rest l = option_map_or (λ rest. length rest.now + 1) l.rest 0
