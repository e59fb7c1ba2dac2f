use Rattle.std.proofs.Common.{◌≡◌}
use Rattle.cfdp_log.proofs.lossy_log.LossyLog.writes_out.Given as goal

abbrev pub invariant-loop-piece : goal.invariant-loop-piece
invariant-loop-piece l = l.self.came ≡ l.initial.self.came
