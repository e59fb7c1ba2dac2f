use Rattle.std.proofs.Common.{[], subst}
use Rattle.aos_frame.specs.declared.config.Lane.TheVariants.{Directives, Data}
use Rattle.link_stack.specs.Downward.{DownState, IsDown, idle_zones}
use Rattle.link_stack.proofs.down.Down.count_from.Goals as goal

pub returns-clause-stream : goal.returns-clause-stream
returns-clause-stream c Directives =
    subst (λ (d : DownState). IsDown d.directives [] 0 → IsDown c.count_from.new.self (idle_zones d.directives.link.zone c.args.count) c.args.count)
    c.self.view_is c.count_from.ensures.stream
returns-clause-stream c Data =
    subst (λ (d : DownState). IsDown d.file_data [] 0 → IsDown c.count_from-2.new.self (idle_zones d.file_data.link.zone c.args.count) c.args.count)
    c.self.view_is c.count_from-2.ensures.stream
