use Rattle.crc.specs.FileChecks.{divisor32}
use Rattle.crc.proofs.Powers.{IsMoved}
use Rattle.crc.proofs.Lefts.{least32, most32}
use Rattle.crc.proofs.thirty_two.Crc32.moved.Given as goal

abbrev pub invariant-loop-count : goal.invariant-loop-count
invariant-loop-count l = IsMoved (divisor32 l.self) (least32 l.self) (most32 l.self) l.octets l.left l.count l.power l.moved

abbrev pub decreases-loop-count : goal.decreases-loop-count
decreases-loop-count l = l.count
