use Rattle.std.proofs.Common.{ap, ◌∙◌}
use Rattle.link_stack.specs.Downward.{both_counted_from, first_down}
use Rattle.link_stack.specs.Upward.{first_up}
use Rattle.cfdp_station.specs.declared.config.StationConfig.{StationConfig}
use Rattle.any_order.proofs.Leading.{entity_anew}
use Rattle.any_order.proofs.world.made_again.Goals as goal

pub restore_from-requires-clause-new : goal.restore_from-requires-clause-new
restore_from-requires-clause-new g c =
    entity_anew c.in-Ok.station.entity.state _ _ _ _ c.numbered_from-numbered.result c.args.config c.args.number c.in-Ok.ensures.entity c.requires.sources c.requires.files c.numbered_from-numbered.ensures.is

pub returns-in-Ok-restore_from-clause-down : goal.returns-in-Ok-restore_from-clause-down
returns-in-Ok-restore_from-clause-down g c =
    c.restore_from.ensures.link.0 ∙ (c.in-Ok.ensures.down ∙ ap (λ (k : StationConfig). both_counted_from c.args.first (first_down k.sends k.capacity)) c.numbered_from-numbered.ensures.is)

pub returns-in-Ok-restore_from-clause-up : goal.returns-in-Ok-restore_from-clause-up
returns-in-Ok-restore_from-clause-up g c =
    c.restore_from.ensures.link.1 ∙ (c.in-Ok.ensures.up ∙ ap (λ (k : StationConfig). first_up k.receives) c.numbered_from-numbered.ensures.is)
