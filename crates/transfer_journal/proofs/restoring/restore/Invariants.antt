use Rattle.std.proofs.Common.{◌≡◌, ◌++◌, [], length}
use Rattle.std.specs.List.{flat_map}
use Rattle.std.specs.Vec.Iter.{into_iter_items, into_iter_len}
use Rattle.transfer_journal.specs.Pending.{pending_in}
use Rattle.transfer_journal.proofs.restoring.restore.Given as goal

-- nothing is pending while transactions are forgotten
abbrev pub invariant-loop-range : goal.invariant-loop-range
invariant-loop-range g l = l.restored.pending.items ≡ []

-- with the transactions that are left, all is there
abbrev pub invariant-loop-slot : goal.invariant-loop-slot
invariant-loop-slot g l = record {
  len : length (into_iter_items l.slot-iterator) ≡ into_iter_len l.slot-iterator;
  pending : l.restored.pending.items ++ flat_map pending_in (into_iter_items l.slot-iterator)
      ≡ flat_map pending_in l.fn.survey.transfers.items;
}
