-- The earliest so far, and the earliest of what is left, are as they were.
use Rattle.std.proofs.Common.{◌≡◌, ◌*◌, drop}
use Rattle.cfdp_timers.specs.Entries.{alarms, earlier, earliest}
use Rattle.cfdp_timers.proofs.walk.earlier_in.Given as goal

abbrev pub invariant-loop-place : goal.invariant-loop-place
invariant-loop-place l =
    earlier l.earliest (earliest (alarms (drop l.place l.entries.entries))) ≡ earlier l.fn.first (earliest (alarms (drop (64 * l.block) l.entries.entries)))
