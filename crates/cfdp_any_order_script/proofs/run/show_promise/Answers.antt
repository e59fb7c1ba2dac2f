use Rattle.std.proofs.Common.{subst}
use Rattle.any_order.specs.World.{KeepsPromise}
use Rattle.cfdp_any_order_script.specs.Performing.{PlayState}
use Rattle.cfdp_any_order_script.proofs.run.show_promise.Goals as goal

pub returns : goal.returns
returns c = subst (λ (p : PlayState). KeepsPromise p.world) c.play.view_is c.received.ensures.promised
