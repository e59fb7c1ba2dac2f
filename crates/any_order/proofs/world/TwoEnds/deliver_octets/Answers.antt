use Rattle.std.proofs.Common.{refl, sym, ap}
use Rattle.station_pair.specs.declared.world_config.WorldConfig.{WorldConfig}
use Rattle.any_order.proofs.Happening.{happened_one, happened_two}
use Rattle.any_order.proofs.world.TwoEnds.deliver_octets.Goals as goal

pub returns-in-One-clause-happened : goal.returns-in-One-clause-happened
returns-in-One-clause-happened g c =
    let i = c.self.inside in
    rw (c.in-One.is, ← c.self.view_is) (happened_two _ _ _ refl (c.octets_to.ensures.makes i.config.two i.one _ (ap (λ (k : WorldConfig). k.two.receives) (sym c.get-config.ensures.is))))

pub returns-in-Two-clause-happened : goal.returns-in-Two-clause-happened
returns-in-Two-clause-happened g c =
    let i = c.self.inside in
    rw (c.in-Two.is, ← c.self.view_is) (happened_one _ _ _ refl (c.octets_to-in-Two.ensures.makes i.config.one i.two _ (ap (λ (k : WorldConfig). k.one.receives) (sym c.get-config.ensures.is))))
