use Rattle.transfer_journal.specs.Says.{is_in}
use Rattle.transfer_journal.proofs.Taken.{drop-step}
use Rattle.transfer_journal.proofs.survey.drop_those.Goals as goal

pub loop-place-preserved : goal.loop-place-preserved
loop-place-preserved c =
    drop-step (is_in c.args.source c.args.ranges.now) c.args.ids.now c.args.slots.now c.loop-place.slots c.drop_if.new.slots c.loop-place.place _ c.is_in.result c.loop-place-test.true c.loop-place.invariant c.is_in.ensures c.drop_if.ensures
