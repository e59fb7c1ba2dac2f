use Rattle.std.proofs.Common.{subst, true}
use Rattle.cfdp_station.specs.New.{IsNewAt}
use Rattle.cfdp_port.specs.Pair.{pair}
use Rattle.cfdp_node.proofs.LoopLemmas.{from_both}
use Rattle.cfdp_node.proofs.looping.run_second.Goals as goal

pub returns-in-Ok : goal.returns-in-Ok
returns-in-Ok g c =
    let published = g.I.Inbox.published c.args.second.inbox in
    let first = subst (λ files. IsNewAt c.args.second.config true files published c.in-Ok.two.station) c.new.ensures c.in-Ok.ensures.station in
    from_both g.W.Wire.steps c.run_both-exit.result c.args.options.now.source.items c.args.options.now.destination.items
    c.args.options.now.turns
    (g.V.Write.contents c.args.out.now) (g.V.Write.contents c.run_both-exit.new.out)
    c.args.one.now c.in-Ok.two c.args.second.config published c.args.second.wire (pair c.run_both-exit.new.one c.run_both-exit.new.two)
    first c.in-Ok.ensures.wire c.run_both-exit.ensures.1
