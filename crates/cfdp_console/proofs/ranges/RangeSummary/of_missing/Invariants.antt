use Rattle.cfdp_extents.specs.Terms.{gaps_of}
use Rattle.cfdp_console.proofs.Summing.{IsDone}
use Rattle.cfdp_console.proofs.ranges.RangeSummary.of_missing.Given as goal

-- those so far are added
abbrev pub invariant-loop-gap : goal.invariant-loop-gap
invariant-loop-gap l = IsDone l.gap-iterator (gaps_of l.held 0 l.limit) l.ranges
