use Rattle.std.proofs.Common.{arith}
use Rattle.cfdp_directives.proofs.Sums.{run_more}
use Rattle.cfdp_directives.proofs.pdu.checksum.sum_runs.Goals as goal

pub loop-at-preserved : goal.loop-at-preserved
loop-at-preserved c =
    let is = c.min-end.ensures in
    let test = c.loop-at-test.true in
    (omega arith, run_more c.args.old c.loop-at.at c.min-end.result c.loop-at.sum c.sum_blocks-sum.result c.args.blocks.now (omega arith) c.loop-at.invariant.1 c.sum_blocks-sum.ensures)
