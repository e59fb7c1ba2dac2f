use Rattle.std.proofs.Common.{ap}
use Rattle.cfdp_entity.specs.Roomy.{Roomy}
use Rattle.cfdp_entity.specs.Desk.{on_desk}
use Rattle.cfdp_entity.proofs.Ticking.{becomes-fired, count-fired}
use Rattle.cfdp_entity.proofs.table.Table.fire.Goals as goal

pub returns-clause-state : goal.returns-clause-state
returns-clause-state g c =
    becomes-fired c.fire.result c.self.inside.gone (on_desk g.O.Outbox g.I.Inbox c.self.inside.desk) c.fire.new.self c.self.inside.records.entries c.args.now c.fire.ensures.time c.fire.ensures.left
    c.args.self.now c.self.view_is

pub returns-clause-count : goal.returns-clause-count
returns-clause-count g c =
    count-fired c.fire.result (λ fired. fired.items) c.self.inside.desk.effects.timers.armed _ c.args.now c.self.inside.desk.effects.timers.time c.fire.new.self.time c.fire.ensures.time
    c.fire.ensures.count (ap (λ (v : Roomy). v.state.armed) c.self.view_is) _ (ap (λ (v : Roomy). v.state.now) c.self.view_is)
