-- The earliest so far, and the earliest of what is left, are the earliest of all.
use Rattle.std.proofs.Common.{◌≡◌, ◌*◌, drop}
use Rattle.cfdp_timers.specs.Entries.{alarms, earlier, earliest}
use Rattle.cfdp_timers.proofs.walk.earliest_of_all.Given as goal

abbrev pub invariant-loop-block : goal.invariant-loop-block
invariant-loop-block l = earlier l.first (earliest (alarms (drop (64 * l.block) l.entries.entries))) ≡ earliest (alarms l.entries.entries)
