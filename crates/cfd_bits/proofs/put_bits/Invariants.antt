use Rattle.cfd_bits.proofs.Writing.{IsWritten}
use Rattle.cfd_bits.proofs.put_bits.Given as goal

abbrev pub invariant-loop-end : goal.invariant-loop-end
invariant-loop-end l = IsWritten l.at_bit l.width l.value l.fn.bytes l.end l.left l.bytes

abbrev pub decreases-loop-end : goal.decreases-loop-end
decreases-loop-end l = l.end
