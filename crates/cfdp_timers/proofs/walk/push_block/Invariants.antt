-- The added ones and the others are all of the block and after it.
use Rattle.std.proofs.Common.{◌≡◌, ◌*◌, ◌++◌, map, drop}
use Rattle.cfdp_timers.specs.Entries.{due, alarms, entry_of}
use Rattle.cfdp_timers.proofs.walk.push_block.Given as goal

abbrev pub invariant-loop-place : goal.invariant-loop-place
invariant-loop-place l =
    map entry_of l.due.items ++ due l.now (alarms (drop l.place l.entries.entries)) ≡ map entry_of l.fn.due.items ++ due l.now (alarms (drop (64 * l.block) l.entries.entries))
