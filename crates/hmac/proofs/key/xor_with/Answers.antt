use Rattle.std.proofs.Common.{ℕ, ◌<◌, length, slice_index_or, arith}
use Rattle.std.specs.Int.Bits.{bit_xor}
use Rattle.std.proofs.lemmas.List.{get_or_default}
use Rattle.std.proofs.lemmas.List.Edits.{map_over_more}
use Rattle.hmac.proofs.key.xor_with.Goals as goal

pub loop-i-preserved : goal.loop-i-preserved
loop-i-preserved c =
    let octet : ℕ = slice_index_or c.loop-i.octets c.loop-i.i 0 in
    let within : c.loop-i.i < length c.loop-i.octets = omega arith in
    map_over_more (λ (octet : ℕ). bit_xor octet c.args.pad) c.args.octets.now c.loop-i.octets c.loop-i.i octet c.loop-i-test.true c.loop-i.invariant (get_or_default c.loop-i.octets c.loop-i.i 0 octet within)
