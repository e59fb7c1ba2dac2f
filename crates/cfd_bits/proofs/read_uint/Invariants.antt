use Rattle.std.proofs.Common.{◌≡◌, ◌*◌}
use Rattle.cfd_bits.specs.Field.{field}
use Rattle.cfd_bits.proofs.read_uint.Given as goal

abbrev pub invariant-loop-i : goal.invariant-loop-i
invariant-loop-i l = l.value ≡ field l.bytes 0 (8 * l.i)
