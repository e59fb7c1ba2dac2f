use Rattle.std.proofs.Common.{refl, ap, ◌∙◌, arith}
use Rattle.crc.specs.Mirrors.{mirrored32}
use Rattle.crc.proofs.Lefts.{none32}
use Rattle.crc.proofs.Tables32.{eights_more32}
use Rattle.crc.proofs.thirty_two.Crc32.eights.Goals as goal

pub loop-place-init : goal.loop-place-init
loop-place-init c = record {
  within = omega arith;
  eights = refl;
  is = c.mirrored-mirror.ensures ∙ ap (mirrored32 c.args.self) (none32 c.args.self c.args.before (omega arith));
}

pub loop-place-preserved : goal.loop-place-preserved
loop-place-preserved c =
    eights_more32 c.args.self c.tables-tables.result.now c.args.before c.args.whole c.loop-place.place c.loop-place.mirror _
    c.from.result c.from-in-loop-place.result c.from-in-loop-place-2.result c.from-in-loop-place-3.result
    c.from-in-loop-place-4.result c.from-in-loop-place-5.result c.from-in-loop-place-6.result c.from-in-loop-place-7.result
    c.args.octets.now c.tables-tables.ensures c.requires.eights c.requires.within c.loop-place-test.true (λ i. omega (arith, c.type_inv.octets i))
    c.from.ensures c.from-in-loop-place.ensures c.from-in-loop-place-2.ensures c.from-in-loop-place-3.ensures
    c.from-in-loop-place-4.ensures c.from-in-loop-place-5.ensures c.from-in-loop-place-6.ensures c.from-in-loop-place-7.ensures
    refl c.loop-place.invariant
