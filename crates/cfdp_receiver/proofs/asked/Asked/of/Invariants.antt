use Rattle.std.proofs.Common.{◌≡◌, ◌≤◌, ◌++◌, Bool, false, length}
use Rattle.std.specs.List.{All}
use Rattle.cfdp_extents.specs.Offsets.{LiesIn}
use Rattle.cfdp_directives.specs.Pdu.Codes.{size_limit}
use Rattle.cfdp_receiver.specs.Missing.{last_end}
use Rattle.cfdp_receiver.specs.Asked.{IsFilled, IsWritable, pairs_of, with_metadata}
use Rattle.cfdp_receiver.proofs.asked.Asked.of.Given as goal

abbrev pub invariant-loop-from : goal.invariant-loop-from
invariant-loop-from l = record {
  all : with_metadata l.metadata l.fn.gaps ≡ pairs_of l.asked ++ l.from-iterator;
  end : l.asked.end ≡ last_end 0 (pairs_of l.asked);
  more : l.asked.more ≡ false;
  filled : IsFilled l.asked;
  writable : (large : Bool) → l.limit ≤ size_limit large → IsWritable large l.asked;
  size : length l.asked.pairs ≡ 32;
  inside : All (LiesIn l.start l.limit) l.from-iterator;
}
