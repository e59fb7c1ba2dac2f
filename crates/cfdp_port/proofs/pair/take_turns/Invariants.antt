use Rattle.cfdp_port.specs.Pair.{Turns, pair}
use Rattle.cfdp_port.proofs.pair.take_turns.Given as goal

abbrev pub invariant-loop-before : goal.invariant-loop-before
invariant-loop-before g l = Turns g.W.Wire.steps l.id l.before (pair l.initial.one l.initial.two) (pair l.one l.two)
