use Rattle.std.proofs.Common.{◌≡◌, drop}
use Rattle.std.specs.FinSet as set
use Rattle.cfdp_extents.specs.Offsets.{union_of}
use Rattle.transfer_journal.proofs.ranges.add_all.Given as goal

-- with those that are left, all are held
abbrev pub invariant-loop-range : goal.invariant-loop-range
invariant-loop-range l =
    set.union l.held (union_of (drop l.range-index l.ranges))
    ≡ set.union l.fn.held (union_of l.ranges)
