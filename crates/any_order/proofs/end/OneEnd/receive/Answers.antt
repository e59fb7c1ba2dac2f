use Rattle.std.proofs.Common.{sym, ◌∙◌}
use Rattle.any_order.proofs.Numbers.{hears_next}
use Rattle.any_order.proofs.end.OneEnd.receive.Goals as goal

pub invariant_of-self : goal.invariant_of-self
invariant_of-self g c =
    c.self.invariant ∙ sym (hears_next c.receive.ensures.pdus c.self.inside.station.entity c.receive.new.self.entity c.receive.ensures.heard)
