use Rattle.std.proofs.Common.{◌*◌, ◌^◌, bit_xor, ap, ◌∙◌, get_or, refl, arith}
use Rattle.crc.specs.Division.{moved}
use Rattle.crc.specs.Checks.{divisor16}
use Rattle.crc.proofs.Tables.{more16}
use Rattle.crc.proofs.sixteen.crc16_more.Goals as goal

pub loop-place-preserved : goal.loop-place-preserved
loop-place-preserved c =
    let o = c.args.octets.now in
    let n = c.loop-place.place in
    let b = get_or o n 0 in
    c.with_octet-check.ensures
    ∙ ap (λ s. moved 16 divisor16 8 (bit_xor s (b * 2 ^ 8))) c.loop-place.invariant
    ∙ more16 c.args.before o n b (omega arith) refl (omega (arith, c.type_inv.octets n))
