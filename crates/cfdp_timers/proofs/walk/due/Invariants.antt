-- The collected ones and the others are all.
use Rattle.std.proofs.Common.{◌≡◌, ◌*◌, ◌++◌, map, drop}
use Rattle.cfdp_timers.specs.Entries.{due, alarms, entry_of}
use Rattle.cfdp_timers.proofs.walk.due.Given as goal

abbrev pub invariant-loop-block : goal.invariant-loop-block
invariant-loop-block l = map entry_of l.due.items ++ due l.now (alarms (drop (64 * l.block) l.entries.entries)) ≡ due l.now (alarms l.entries.entries)
