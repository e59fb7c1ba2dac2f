use Rattle.std.proofs.Common.{◌≡◌, ◌≤◌, ◌-◌, ◌++◌, length, drop}
use Rattle.mpdu.specs.Reading.{scan}
use Rattle.mpdu.proofs.reassembler.cut.Given as goal

abbrev pub invariant-loop-rest : goal.invariant-loop-rest
invariant-loop-rest l = record {
  shorter : length l.rest ≤ length l.bytes;
  behind : l.rest ≡ drop (length l.bytes - length l.rest) l.bytes;
  begun : (scan (length l.bytes) l.bytes).begun ≡ (scan (length l.rest) l.rest).begun;
  bad : (scan (length l.bytes) l.bytes).bad ≡ (scan (length l.rest) l.rest).bad;
  out : l.initial.out ++ (scan (length l.bytes) l.bytes).out ≡ l.out ++ (scan (length l.rest) l.rest).out;
  grown : length l.initial.out ≤ length l.out;
}

abbrev pub decreases-loop-rest : goal.decreases-loop-rest
decreases-loop-rest l = length l.rest
