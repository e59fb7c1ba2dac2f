use Rattle.std.proofs.Common.{arith}
use Rattle.crc.specs.FileChecks.{divisor32}
use Rattle.crc.proofs.Lefts.{least32, most32}
use Rattle.crc.proofs.Powers.{doubled_high, doubled_low}
use Rattle.crc.proofs.thirty_two.Crc32.doubled.Goals as goal

pub returns-then-left-ge2147483648 : goal.returns-then-left-ge2147483648
returns-then-left-ge2147483648 c = doubled_high (divisor32 c.args.self) (least32 c.args.self) (most32 c.args.self) c.args.left c.divisor.result (omega arith) (omega arith) c.divisor.ensures

pub returns-else-left-ge2147483648 : goal.returns-else-left-ge2147483648
returns-else-left-ge2147483648 c = doubled_low (divisor32 c.args.self) (least32 c.args.self) (most32 c.args.self) c.args.left (omega arith)
