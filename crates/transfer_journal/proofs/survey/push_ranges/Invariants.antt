use Rattle.std.proofs.Common.{◌≡◌, ◌++◌, map, drop}
use Rattle.transfer_journal.specs.Survey.{range_of}
use Rattle.transfer_journal.proofs.survey.push_ranges.Given as goal

-- with those that are left, all are there
abbrev pub invariant-loop-range : goal.invariant-loop-range
invariant-loop-range l =
    l.forgotten.items ++ map (range_of l.source) (drop l.range-index l.ranges)
    ≡ l.fn.forgotten.items ++ map (range_of l.source) l.ranges
