use Rattle.std.proofs.Common.{refl}
use Rattle.any_order.proofs.Leading.{makes_request}
use Rattle.any_order.proofs.end.OneEnd.request.Goals as goal

pub returns-clause-makes : goal.returns-clause-makes
returns-clause-makes g c d theirs puts =
    rw (← c.self.view_is) (makes_request c.args.id c.args.request c.request.result d _ theirs _ puts c.request.ensures.entity.called c.request.ensures.err c.request.ensures.link refl)
