use Rattle.std.proofs.Common.{◌∙◌, arith}
use Rattle.cfd_bits.proofs.Turned.{eight_are_spelled}
use Rattle.cfd_bits.proofs.words.read_eight.Goals as goal

pub returns : goal.returns
returns c = c.swap_bytes.ensures ∙ eight_are_spelled c.args.bytes.now c.from_le_bytes-turned.result (λ i. omega (arith, c.type_inv.bytes i)) c.from_le_bytes-turned.ensures
