use Rattle.std.proofs.Common.{◌≡◌, ◌+◌, length}
use Rattle.std.specs.List.{All}
use Rattle.cfdp_directives.specs.Pdu.Sums.{all_summed}
use Rattle.cfdp_extents.specs.Offsets.{LiesIn}
use Rattle.cfdp_receiver.specs.Pieces.{pieces_in}
use Rattle.cfdp_receiver.proofs.staging.sums_of_gaps.Given as goal

abbrev pub invariant-loop-start : goal.invariant-loop-start
invariant-loop-start l = record {
  inside : All (LiesIn l.offset (l.offset + length l.bytes)) l.start-iterator;
  sums : all_summed l.wanted l.sums (pieces_in l.offset l.bytes l.start-iterator)
      ≡ all_summed l.wanted l.fn.before (pieces_in l.offset l.bytes l.fn.gaps);
}
