use Rattle.std.proofs.Common.{refl}
use Rattle.cfd_bits.specs.Field.{field, bit}
use Rattle.crc.specs.Division.{remainder}
use Rattle.crc.specs.Checks.{check_from, crc16_behind}
use Rattle.crc.proofs.laws.the_worked_check.Goals as goal

pub returns : goal.returns
unfolding crc16_behind check_from remainder field bit
returns c = refl
