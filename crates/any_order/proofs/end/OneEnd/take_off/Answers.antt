use Rattle.std.proofs.Common.{sym, ◌∙◌}
use Rattle.any_order.proofs.Numbers.{gives_next}
use Rattle.any_order.proofs.end.OneEnd.take_off.Goals as goal

pub invariant_of-self : goal.invariant_of-self
invariant_of-self g c =
    c.self.invariant ∙ sym (gives_next c.take_all.ensures.gives.0 c.self.inside.station c.take_all.new.station c.self.inside.latest c.take_all.new.self c.take_all.ensures.gives.1)
