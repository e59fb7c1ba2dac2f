use Rattle.std.proofs.Common.{arith}
use Rattle.mpdu.specs.Stream.{header_len}
use Rattle.mpdu.proofs.header.packet_len.Goals as goal

pub returns-clause-told : goal.returns-clause-told
unfolding header_len
returns-clause-told c = omega (arith, c.packet_len.ensures.value)
