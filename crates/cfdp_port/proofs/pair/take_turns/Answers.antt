use Rattle.cfdp_port.specs.Pair.{IsClosed, pair}
use Rattle.cfdp_port.proofs.PairLemmas.{turned_in_part, turned_more}
use Rattle.cfdp_port.proofs.TurnLemmas.{not_so, on_err}
use Rattle.cfdp_port.proofs.pair.take_turns.Goals as goal

pub returns-in_err-take_turn-clause-err : goal.returns-in_err-take_turn-clause-err
returns-in_err-take_turn-clause-err g c =
    on_err c.from_residual.result _
    (turned_in_part g.W.Wire.steps c.args.id c.args.most c.loop-before.before _ (pair c.loop-before.one c.loop-before.two) _
    c.loop-before-test.true c.loop-before.invariant
    (not_so c.are_closed.result (IsClosed c.args.id c.loop-before.one.station c.loop-before.two.station) c.are_closed.ensures c.if-are_closed.false)
    c.in_err-take_turn.ensures.err)

pub loop-before-preserved : goal.loop-before-preserved
loop-before-preserved g c =
    turned_more g.W.Wire.steps c.args.id c.loop-before.before _ (pair c.loop-before.one c.loop-before.two) _
    c.loop-before.invariant
    (not_so c.are_closed.result (IsClosed c.args.id c.loop-before.one.station c.loop-before.two.station) c.are_closed.ensures c.if-are_closed.false)
    c.in_ok-take_turn.ensures.ok
