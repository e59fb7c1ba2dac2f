use Rattle.std.proofs.Common.{refl, arith}
use Rattle.crc.specs.declared.sixteen_tables.TheConstants.{TABLES}
use Rattle.crc.proofs.Tables.{none16, tables16, eights_more}
use Rattle.crc.proofs.sixteen.eights.Goals as goal

pub loop-place-init : goal.loop-place-init
loop-place-init c = record {
  within = omega arith;
  eights = refl;
  is = none16 c.args.before (omega arith);
}

pub loop-place-preserved : goal.loop-place-preserved
loop-place-preserved c =
    eights_more TABLES c.args.before c.args.whole c.loop-place.place c.loop-place.check _
    c.from.result c.from-in-loop-place.result c.from-in-loop-place-2.result c.from-in-loop-place-3.result
    c.from-in-loop-place-4.result c.from-in-loop-place-5.result c.from-in-loop-place-6.result c.from-in-loop-place-7.result
    c.args.octets.now tables16 c.requires.eights c.requires.within c.loop-place-test.true (λ i. omega (arith, c.type_inv.octets i))
    c.from.ensures c.from-in-loop-place.ensures c.from-in-loop-place-2.ensures c.from-in-loop-place-3.ensures
    c.from-in-loop-place-4.ensures c.from-in-loop-place-5.ensures c.from-in-loop-place-6.ensures c.from-in-loop-place-7.ensures
    refl c.loop-place.invariant
