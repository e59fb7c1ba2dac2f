use Rattle.std.proofs.Common.{◌≡◌, ◌+◌, ◌-◌, ◌≤◌, length, [], MatchOption}
use Rattle.std.specs.Option.{option_map_or}
use Rattle.cfdp_report.specs.Words.{parts}
use Rattle.cfdp_script.specs.Script.Lines.{numbered}
use Rattle.cfdp_script.specs.Script.Gathering.{gathered, gather}
use Rattle.cfdp_script.proofs.script.Script.read_lines.Given as goal

-- each line so far had an octet at least, its line feed; and what is left leads to what all leads to
abbrev pub invariant-loop-rest : goal.invariant-loop-rest
invariant-loop-rest l = MatchOption l.rest (Unit {0}) (λ rest. l.line + length rest.now ≤ 1048576)
    × (gather (gathered l.self) (numbered (l.line + 1) (option_map_or (λ rest. parts 10 rest.now) l.rest []))
    ≡ gather (gathered l.fn.self) (numbered 1 (parts 10 l.text)))

-- so there are few lines
abbrev pub decreases-loop-rest : goal.decreases-loop-rest
decreases-loop-rest l = 1048577 - l.line
