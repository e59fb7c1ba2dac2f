use Rattle.crc.specs.FileChecks.{divisor32}
use Rattle.crc.proofs.Powers.{IsProduct}
use Rattle.crc.proofs.thirty_two.Crc32.times.Given as goal

abbrev pub invariant-loop-place : goal.invariant-loop-place
invariant-loop-place l = IsProduct (divisor32 l.self) l.first l.second l.place l.product

abbrev pub decreases-loop-place : goal.decreases-loop-place
decreases-loop-place l = l.place
