-- The counted ones and the others are all.
use Rattle.std.proofs.Common.{◌≡◌, ◌+◌, ◌*◌, length, drop}
use Rattle.cfdp_timers.specs.Entries.{due, alarms}
use Rattle.cfdp_timers.proofs.walk.due_count.Given as goal

abbrev pub invariant-loop-block : goal.invariant-loop-block
invariant-loop-block l = l.count + length (due l.now (alarms (drop (64 * l.block) l.entries.entries))) ≡ length (due l.now (alarms l.entries.entries))
