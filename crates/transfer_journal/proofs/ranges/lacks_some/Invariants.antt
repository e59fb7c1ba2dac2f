use Rattle.std.proofs.Common.{◌≡◌}
use Rattle.cfdp_extents.specs.Terms.{ranges_of}
use Rattle.transfer_journal.proofs.Held.{all_noted}
use Rattle.transfer_journal.proofs.ranges.lacks_some.Given as goal

-- all ranges so far are noted
abbrev pub invariant-loop-range : goal.invariant-loop-range
invariant-loop-range l =
    all_noted l.noted (ranges_of l.held) ≡ all_noted l.noted l.range-iterator
