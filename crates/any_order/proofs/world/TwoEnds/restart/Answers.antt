use Rattle.std.proofs.Common.{refl, ap, ◌∙◌}
use Rattle.station_pair.specs.declared.side.Side.{Side}
use Rattle.station_pair.specs.Stations.{station_of}
use Rattle.any_order.proofs.Happening.{happened_one, happened_two}
use Rattle.any_order.proofs.Leading.{makes_config}
use Rattle.any_order.proofs.world.TwoEnds.restart.Goals as goal

pub returns-in-One-clause-happened : goal.returns-in-One-clause-happened
returns-in-One-clause-happened g c =
    let i = c.self.inside in
    rw (c.in-One.is, ← c.self.view_is) (happened_one _ _ _ refl (makes_config _ _ _ _ _ _ _ _ (c.station-config.ensures ∙ ap (λ (s : Side). station_of s i.config) c.in-One.is) (c.restart_at.ensures.makes i.two _)))

pub returns-in-Two-clause-happened : goal.returns-in-Two-clause-happened
returns-in-Two-clause-happened g c =
    let i = c.self.inside in
    rw (c.in-Two.is, ← c.self.view_is) (happened_two _ _ _ refl (makes_config _ _ _ _ _ _ _ _ (c.station-config.ensures ∙ ap (λ (s : Side). station_of s i.config) c.in-Two.is) (c.restart_at-in-Two.ensures.makes i.one _)))
