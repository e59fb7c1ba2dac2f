use Rattle.transfer_journal.proofs.Held.{new-are, new-noted}
use Rattle.transfer_journal.proofs.ranges.new_ranges.Goals as goal

pub returns-clause-ranges : goal.returns-clause-ranges
returns-clause-ranges c =
    new-are c.args.held.now c.args.noted.now _ _ c.loop-range.invariant c.in-None.ensures.steps.0

pub returns-clause-noted : goal.returns-clause-noted
returns-clause-noted c =
    new-noted c.args.held.now c.args.noted.now c.add_all.new.held _ _ c.in_ok-add_all.ensures c.as_slice.ensures.value
    (new-are c.args.held.now c.args.noted.now _ _ c.loop-range.invariant c.in-None.ensures.steps.0)
