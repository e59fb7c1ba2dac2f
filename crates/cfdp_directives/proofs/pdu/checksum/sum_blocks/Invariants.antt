use Rattle.std.proofs.Common.{ℕ, ◌<◌, slice_index_or, take}
use Rattle.cfdp_directives.proofs.Lanes.{AreSums}
use Rattle.cfdp_directives.proofs.pdu.checksum.sum_blocks.Given as goal

abbrev pub invariant-loop-block : goal.invariant-loop-block
invariant-loop-block l = (j : ℕ) → j < 8 → AreSums (take l.block-index l.blocks) j (slice_index_or l.all j 0) (slice_index_or l.odd j 0)
