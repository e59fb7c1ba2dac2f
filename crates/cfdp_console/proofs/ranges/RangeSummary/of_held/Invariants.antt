use Rattle.cfdp_extents.specs.Terms.{ranges_of}
use Rattle.cfdp_console.proofs.Summing.{IsDone}
use Rattle.cfdp_console.proofs.ranges.RangeSummary.of_held.Given as goal

-- those so far are added
abbrev pub invariant-loop-range : goal.invariant-loop-range
invariant-loop-range l = IsDone l.range-iterator (ranges_of l.held) l.ranges
