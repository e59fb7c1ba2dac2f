use Rattle.cfdp_node.proofs.LoopLemmas.{flushed_loop}
use Rattle.cfdp_node.proofs.looping.run_loop.Goals as goal

pub returns-clause-ends : goal.returns-clause-ends
returns-clause-ends g c =
    flushed_loop g.W.Wire.steps _ _ _ c.flushed.ensures.kept c.args.options.now.source.items c.args.options.now.destination.items
    c.args.options.now.turns c.run_first.result c.flushed.result c.args.options.now.config _ _ _ c.args.ends.wires c.run_first.ensures c.flushed.ensures.answer
