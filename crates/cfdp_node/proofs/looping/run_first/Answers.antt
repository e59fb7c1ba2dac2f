use Rattle.std.proofs.Common.{subst}
use Rattle.std.specs.FinMap.{empty}
use Rattle.cfdp_station.specs.declared.config.StationConfig.{StationConfig}
use Rattle.cfdp_station.specs.New.{IsNewAt}
use Rattle.cfdp_node.specs.Looping.Turns.{EndsFromOne, IsTold}
use Rattle.cfdp_node.proofs.LoopLemmas.{from_first}
use Rattle.cfdp_node.proofs.looping.run_first.Goals as goal

pub returns-in-Ok : goal.returns-in-Ok
returns-in-Ok g c =
    let first = subst (λ (k : StationConfig). IsNewAt k (g.O.Outbox.stands c.args.ends.outbox) (g.O.Outbox.files c.args.ends.outbox) empty c.in-Ok.one.station) c.station-sender.ensures c.in-Ok.ensures.station in
    let second = subst (λ (k : StationConfig). IsTold c.run_second-exit.result (EndsFromOne g.W.Wire.steps c.run_second-exit.result c.in-Ok.one k (g.I.Inbox.published c.args.ends.inbox) c.args.ends.wires.1
    c.args.options.now.source.items c.args.options.now.destination.items c.args.options.now.turns
    (g.V.Write.contents c.args.out.now) (g.V.Write.contents c.run_second-exit.new.out))) c.station-receiver.ensures c.run_second-exit.ensures in
    from_first g.W.Wire.steps c.run_second-exit.result c.args.options.now.source.items c.args.options.now.destination.items
    c.args.options.now.turns
    (g.V.Write.contents c.args.out.now) (g.V.Write.contents c.run_second-exit.new.out)
    c.in-Ok.one c.args.options.now.config (g.O.Outbox.stands c.args.ends.outbox) (g.O.Outbox.files c.args.ends.outbox) (g.I.Inbox.published c.args.ends.inbox) c.args.ends.wires
    first c.in-Ok.ensures.wire second
