use Rattle.std.proofs.Common.{◌≡◌}
use Rattle.cfdp_service.proofs.clerk.Clerk.commanded.Given as goal

-- commands change nothing of files
abbrev pub invariant-loop-command : goal.invariant-loop-command
invariant-loop-command g l = l.self ≡ l.initial.self
