use Rattle.std.proofs.Common.{◌≡◌}
use Rattle.cfdp_spool.proofs.folder_spool.queue.Queue.next_ready.Given as goal

abbrev pub invariant-loop : goal.invariant-loop
invariant-loop g l = l.self ≡ l.initial.self
