use Rattle.std.proofs.Common.{◌≡◌, take}
use Rattle.crc.specs.FileChecks.{left_behind}
use Rattle.crc.specs.Mirrors.{mirrored32}
use Rattle.crc.proofs.thirty_two.Crc32.more.Given as goal

abbrev pub invariant-loop-place : goal.invariant-loop-place
invariant-loop-place l = l.mirror ≡ mirrored32 l.self (left_behind l.self l.before (take l.place l.octets))
