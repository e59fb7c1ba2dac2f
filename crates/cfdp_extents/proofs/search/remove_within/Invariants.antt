use Rattle.std.proofs.Common.{◌≡◌, length}
use Rattle.cfdp_extents.specs.Ranges.{turned, outside}
use Rattle.cfdp_extents.proofs.search.remove_within.Given as goal

abbrev pub invariant-loop-range : goal.invariant-loop-range
invariant-loop-range l = outside l.start l.end (turned l.ranges.entries) ≡ outside l.start l.end (turned l.initial.ranges.entries)

abbrev pub decreases-loop-range : goal.decreases-loop-range
decreases-loop-range l = length l.ranges.entries
