use Rattle.mpdu.proofs.Counted.{AreFewBelow}
use Rattle.mpdu.proofs.carrying.are_few_in_a_row.Given as goal

abbrev pub invariant-loop-lost : goal.invariant-loop-lost
invariant-loop-lost l = AreFewBelow l.struck l.lost-index l.run
