use Rattle.std.proofs.Common.{◌≡◌, ◌++◌}
use Rattle.std.specs.List.{flat_map}
use Rattle.cfdp_extents.specs.Terms.{ranges_of}
use Rattle.transfer_journal.proofs.Held.{gaps_in}
use Rattle.transfer_journal.proofs.ranges.new_ranges.Given as goal

-- with those that are left, all are there
abbrev pub invariant-loop-range : goal.invariant-loop-range
invariant-loop-range l =
    flat_map (gaps_in l.noted) (ranges_of l.held)
    ≡ l.ranges.items ++ flat_map (gaps_in l.noted) l.range-iterator
