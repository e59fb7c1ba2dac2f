use Rattle.std.proofs.Common.{◌∙◌}
use Rattle.transfer_journal.proofs.Held.{all-added, step-added}
use Rattle.transfer_journal.proofs.ranges.add_all.Goals as goal

pub loop-range-preserved : goal.loop-range-preserved
loop-range-preserved c =
    step-added c.loop-range.held c.add_one.new.held c.args.ranges.now c.loop-range.range-index _ c.loop-range-test.true c.in_ok-add_one.ensures ∙ c.loop-range.invariant

pub returns : goal.returns
returns c = all-added c.args.held.now c.loop-range.held c.args.ranges.now c.loop-range.range-index c.loop-range-test.false c.loop-range.invariant
