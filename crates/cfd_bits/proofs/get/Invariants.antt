use Rattle.std.proofs.Common.{◌≡◌, ◌*◌, ◌-◌}
use Rattle.cfd_bits.specs.Field.{field}
use Rattle.cfd_bits.proofs.get.Given as goal

abbrev pub invariant-loop-place : goal.invariant-loop-place
invariant-loop-place l = l.value ≡ field l.bytes l.at_bit (8 * l.place - l.at_bit)
