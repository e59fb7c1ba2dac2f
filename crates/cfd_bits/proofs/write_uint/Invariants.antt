use Rattle.std.proofs.Common.{◌≡◌, ◌++◌, drop}
use Rattle.cfd_bits.specs.Field.{octets}
use Rattle.cfd_bits.proofs.write_uint.Given as goal

abbrev pub invariant-loop-i : goal.invariant-loop-i
invariant-loop-i l = octets l.count l.value ++ drop l.count l.fn.out ≡ octets l.i l.left ++ drop l.i l.out
