use Rattle.std.proofs.Common.{◌*◌, ◌-◌, ◌^◌, refl, arith}
use Rattle.cfdp_directives.proofs.Sums.{one_more}
use Rattle.cfdp_directives.proofs.pdu.checksum.sum_octets.Goals as goal

pub loop-b-preserved : goal.loop-b-preserved
loop-b-preserved c = record {
  sum = one_more c.args.old c.args.offset c.loop-b.b-index c.loop-b.sum c.loop-b.place c.from.result
      (c.from.result * 2 ^ (8 * (3 - c.loop-b.place))) c.args.bytes.now c.loop-b-test.true c.loop-b.invariant.place c.loop-b.invariant.sum c.from.ensures refl;
  place = let p = c.loop-b.invariant.place in omega arith;
}
