use Rattle.std.proofs.Common.{◌-◌}
use Rattle.crc.proofs.Tables.{IsEights}
use Rattle.crc.proofs.sixteen.eights.Given as goal

abbrev pub invariant-loop-place : goal.invariant-loop-place
invariant-loop-place l = IsEights l.before l.octets l.whole l.place l.check

abbrev pub decreases-loop-place : goal.decreases-loop-place
decreases-loop-place l = l.whole - l.place
