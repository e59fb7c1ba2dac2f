use Rattle.std.proofs.Common.{◌≡◌, length}
use Rattle.std.specs.Prelude.{nat_eq}
use Rattle.std.specs.Cmp.Lexicographic.{pointwise}
use Rattle.cfdp_directives.specs.Pdu.Pair.{numbers}
use Rattle.cfdp_directives.proofs.pdu.pairs.are_same.Given as goal

abbrev pub invariant-loop-start : goal.invariant-loop-start
invariant-loop-start l = pointwise nat_eq (numbers l.one) (numbers l.other) ≡ pointwise nat_eq (numbers l.fn.one) (numbers l.fn.other)

abbrev pub decreases-loop-start : goal.decreases-loop-start
decreases-loop-start l = length l.one
