-- The earliest so far, and the earliest of what is left, are the earliest of all.
use Rattle.std.proofs.Common.{◌≡◌, drop}
use Rattle.cfdp_timers.specs.Entries.{earlier, earliest_of}
use Rattle.cfdp_timers.proofs.blocks.earliest_of.Given as goal

abbrev pub invariant-loop-deadline : goal.invariant-loop-deadline
invariant-loop-deadline l = earlier l.earliest (earliest_of (drop l.deadline-index l.deadlines)) ≡ earliest_of l.deadlines
