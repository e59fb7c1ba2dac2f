-- The bounds are bounds all the while, and as many.
use Rattle.std.proofs.Common.{◌≤◌, length}
use Rattle.cfdp_timers.specs.Entries.{AreBounds}
use Rattle.cfdp_timers.proofs.walk.tighten.Given as goal

abbrev pub invariant-loop-block : goal.invariant-loop-block
invariant-loop-block l = record {
  are : AreBounds l.entries.entries l.bounds;
  within : l.blocks ≤ length l.bounds;
}
