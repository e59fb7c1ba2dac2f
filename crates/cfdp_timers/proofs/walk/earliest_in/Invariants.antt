-- The deadlines so far are no earlier.
use Rattle.std.proofs.Common.{◌*◌}
use Rattle.cfdp_timers.proofs.Bounded.{AreNoEarlier}
use Rattle.cfdp_timers.proofs.walk.earliest_in.Given as goal

abbrev pub invariant-loop-place : goal.invariant-loop-place
invariant-loop-place l = AreNoEarlier l.entries.entries (64 * l.block) l.place l.earliest
