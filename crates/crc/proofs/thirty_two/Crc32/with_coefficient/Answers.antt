use Rattle.std.proofs.Common.{◌∙◌, ◌/◌, ◌^◌}
use Rattle.crc.proofs.Powers.{no_coefficient}
use Rattle.crc.proofs.thirty_two.Crc32.with_coefficient.Goals as goal

pub returns-else-second-place-eq1 : goal.returns-else-second-place-eq1
returns-else-second-place-eq1 c = c.doubled-doubled.ensures ∙ no_coefficient _ (c.args.second / 2 ^ c.args.place) c.args.first c.if-second-place-eq1.false
