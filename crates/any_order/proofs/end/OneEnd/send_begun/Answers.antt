use Rattle.std.proofs.Common.{◌∷◌, refl}
use Rattle.aos_frame.specs.declared.config.Lane.TheVariants.{Directives, Data}
use Rattle.any_order.specs.Calls.{Fills}
use Rattle.any_order.specs.Kept.{gives}
use Rattle.any_order.proofs.Leading.{makes_fills}
use Rattle.any_order.proofs.end.OneEnd.send_begun.Goals as goal

pub returns-clause-makes : goal.returns-clause-makes
returns-clause-makes g c =
    let one = c.flush.ensures in
    let two = c.flush-2.ensures in
    let all = c.take_off.ensures.gives in (
      Fills Directives ∷ Fills Data ∷ gives all.0,
      (all.0, refl),
      λ d theirs puts. makes_fills all.0 d c.args.self.now theirs c.flush.new.self c.flush-2.new.self c.take_off.new.self puts one.flushed one.other one.rest one.only two.flushed two.other two.rest two.only all.1 c.take_off.ensures.only,
    )
