use Rattle.std.proofs.Common.{refl}
use Rattle.std.specs.Int.{reverse_bits_onto}
use Rattle.cfd_bits.specs.Field.{field, bit}
use Rattle.crc.specs.Division.{remainder}
use Rattle.crc.specs.Checks.{check_from}
use Rattle.crc.specs.FileChecks.{left_behind}
use Rattle.crc.proofs.laws.the_worked_file_checks.Goals as goal

pub returns-clause-castagnoli : goal.returns-clause-castagnoli
unfolding left_behind check_from remainder field bit reverse_bits_onto
returns-clause-castagnoli c = refl

pub returns-clause-ieee : goal.returns-clause-ieee
unfolding left_behind check_from remainder field bit reverse_bits_onto
returns-clause-ieee c = refl
