use Rattle.std.proofs.Common.{◌≡◌, ◌+◌, ◌-◌, ◌*◌, ◌/◌, ◌%◌, ◌^◌, ◌<◌, arith}
use Rattle.cfd_bits.proofs.Octet.{changed, changed-code, changed-below}
use Rattle.cfd_bits.proofs.with_bits.Goals as goal

-- what the code computes, in the octet itself
computed : (c : goal.After-from-3) → (c.from.result / 2 ^ (8 - c.args.from) * 2 ^ c.args.width % 2 ^ 32 + c.from-3.result) * 2 ^ (8 - (c.args.from + c.args.width)) % 2 ^ 32
    + c.from-2.result % (1 * 2 ^ (8 - (c.args.from + c.args.width)) % 2 ^ 32) ≡ changed c.args.octet c.args.from c.args.width c.args.value
computed c =
    let small : c.args.octet < 256 = omega arith in
    rw (c.from.ensures, c.from-2.ensures, c.from-3.ensures) (changed-code c.args.octet c.args.from c.args.width c.args.value small c.requires.fits c.requires.room)

pub overflow_cast-result-3 : goal.overflow_cast-result-3
overflow_cast-result-3 c = omega (arith, computed c, changed-below c.args.octet c.args.from c.args.width c.args.value (omega arith) c.requires.fits c.requires.room)

pub returns : goal.returns
returns c = computed c
