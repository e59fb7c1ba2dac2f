use Rattle.std.proofs.Common.{◌≡◌, ◌+◌, ◌≤◌, length}
use Rattle.cfdp_receiver.specs.Asked.{with_metadata}
use Rattle.cfdp_receiver.proofs.asked.count_asked.Given as goal

abbrev pub invariant-loop-gap : goal.invariant-loop-gap
invariant-loop-gap l = record {
  all : l.count + length l._gap-iterator ≡ length (with_metadata l.metadata l.fn.gaps);
  few : l.count ≤ 32;
}
