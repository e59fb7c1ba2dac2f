use Rattle.std.proofs.Common.{refl}
use Rattle.any_order.proofs.Happening.{happened_one, happened_two}
use Rattle.any_order.proofs.world.TwoEnds.put.Goals as goal

pub returns-in-One-clause-happened : goal.returns-in-One-clause-happened
returns-in-One-clause-happened g c =
    let i = c.self.inside in
    rw (c.in-One.is, ← c.self.view_is) (happened_one _ _ _ refl (c.put_at.ensures.makes i.config.one i.two))

pub returns-in-Two-clause-happened : goal.returns-in-Two-clause-happened
returns-in-Two-clause-happened g c =
    let i = c.self.inside in
    rw (c.in-Two.is, ← c.self.view_is) (happened_two _ _ _ refl (c.put_at-in-Two.ensures.makes i.config.two i.one))
