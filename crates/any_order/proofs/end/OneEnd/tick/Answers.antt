use Rattle.std.proofs.Common.{refl}
use Rattle.any_order.proofs.Leading.{makes_tick}
use Rattle.any_order.proofs.end.OneEnd.tick.Goals as goal

pub returns-clause-makes : goal.returns-clause-makes
returns-clause-makes g c d theirs puts =
    rw (← c.self.view_is) (makes_tick c.args.now c.tick.result d _ theirs _ puts c.tick.ensures.ticked c.tick.ensures.table c.tick.ensures.err c.tick.ensures.link refl)
