-- The bounds so far are no earlier.
use Rattle.std.proofs.Common.{ℕ, ◌<◌, ◌≤◌, get_or}
use Rattle.cfdp_timers.proofs.bounds.least_of.Given as goal

abbrev pub invariant-loop-bound : goal.invariant-loop-bound
invariant-loop-bound l = (block : ℕ) → block < l.bound-index → l.least ≤ get_or l.bounds block 0
