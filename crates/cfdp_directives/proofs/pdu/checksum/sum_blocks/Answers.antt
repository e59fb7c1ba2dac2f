use Rattle.std.proofs.Common.{get_or, arith}
use Rattle.cfdp_directives.proofs.Lanes.{one_block, last_lanes, lanes_are}
use Rattle.cfdp_directives.proofs.pdu.checksum.sum_blocks.Goals as goal

pub loop-block-preserved : goal.loop-block-preserved
loop-block-preserved c j h =
    one_block c.args.blocks.now c.loop-block.block-index j (get_or c.loop-block.all j 0) (get_or c.loop-block.odd j 0) (get_or c.lanes_of-lanes.result j 0) (get_or c.high.result j 0)
    (get_or c.plus-all.result j 0) (get_or c.plus-odd.result j 0) c.loop-block-test.true c.requires (c.loop-block.invariant j h) (c.lanes_of-lanes.ensures j h) (c.high.ensures j h)
    (c.plus-all.ensures j h) (c.plus-odd.ensures j h)

pub returns : goal.returns
returns c =
    let lanes = last_lanes c.args.blocks.now c.loop-block.block-index c.loop-block.all c.loop-block.odd c.less-even.result c.loop-block-test.false c.requires c.loop-block.invariant c.less-even.ensures in
    let sums = lanes_are c.args.blocks.now c.less-even.result c.loop-block.odd c.told-blocks lanes in
    let told = c.sum_lanes.ensures in
    omega (arith, sums, told)
