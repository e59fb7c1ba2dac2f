use Rattle.std.proofs.Common.{◌≡◌, ◌++◌}
use Rattle.cfdp_extents.specs.Terms.{gaps_of}
use Rattle.transfer_journal.proofs.ranges.push_missing.Given as goal

-- with those that are left, all are there
abbrev pub invariant-loop-missing : goal.invariant-loop-missing
invariant-loop-missing l =
    l.fn.ranges.items ++ gaps_of l.noted l.start l.end ≡ l.ranges.items ++ l.missing-iterator
