use Rattle.std.proofs.Common.{refl}
use Rattle.any_order.proofs.Happening.{happened_one, happened_two}
use Rattle.any_order.proofs.world.TwoEnds.poll.Goals as goal

pub returns-in-One-clause-happened : goal.returns-in-One-clause-happened
returns-in-One-clause-happened g c =
    let i = c.self.inside in
    let p = c.send_next.ensures.makes in
    (p.0, p.1, rw (c.in-One.is, ← c.self.view_is) (happened_one p.0 _ _ refl (p.2 i.config.one i.two _)))

pub returns-in-Two-clause-happened : goal.returns-in-Two-clause-happened
returns-in-Two-clause-happened g c =
    let i = c.self.inside in
    let p = c.send_next-in-Two.ensures.makes in
    (p.0, p.1, rw (c.in-Two.is, ← c.self.view_is) (happened_two p.0 _ _ refl (p.2 i.config.two i.one _)))
