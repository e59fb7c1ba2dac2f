use Rattle.std.proofs.Common.{length, ◌-◌}
use Rattle.cfdp_store.proofs.sources.Source.read.Given as goal

abbrev pub decreases-loop-done : goal.decreases-loop-done
decreases-loop-done g l = length l.initial.out - l.done
