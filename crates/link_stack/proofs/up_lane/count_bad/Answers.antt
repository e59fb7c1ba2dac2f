use Rattle.link_stack.proofs.Unpacked.{one_bad}
use Rattle.link_stack.proofs.up_lane.count_bad.Goals as goal

pub loop-preserved : goal.loop-preserved
loop-preserved c = one_bad c.args.bad c.loop.counter c.loop.drops c.count.new.self _ c.loop-test.true c.loop.invariant c.count.ensures
