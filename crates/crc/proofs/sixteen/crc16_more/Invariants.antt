use Rattle.std.proofs.Common.{◌≡◌, take}
use Rattle.crc.specs.Checks.{crc16_behind}
use Rattle.crc.proofs.sixteen.crc16_more.Given as goal

abbrev pub invariant-loop-place : goal.invariant-loop-place
invariant-loop-place l = l.check ≡ crc16_behind l.before (take l.place l.octets)
