use Rattle.std.proofs.Common.{◌-◌}
use Rattle.crc.proofs.Tables32.{IsEights32}
use Rattle.crc.proofs.thirty_two.Crc32.eights.Given as goal

abbrev pub invariant-loop-place : goal.invariant-loop-place
invariant-loop-place l = IsEights32 l.fn.self l.before l.octets l.whole l.place l.mirror

abbrev pub decreases-loop-place : goal.decreases-loop-place
decreases-loop-place l = l.whole - l.place
