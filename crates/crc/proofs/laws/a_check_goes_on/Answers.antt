use Rattle.std.proofs.Common.{arith}
use Rattle.crc.specs.Checks.{crc16_behind, divisor16}
use Rattle.crc.proofs.Joined.{joined}
use Rattle.crc.proofs.laws.a_check_goes_on.Goals as goal

pub returns : goal.returns
unfolding crc16_behind
returns c = λ start front back fits bytes. joined 8 divisor16 (omega arith) (omega arith) start front back fits (λ i _. bytes i)
