use Rattle.cfdp_spool.specs.Leaving.{OnlyDoes}
use Rattle.cfdp_spool.proofs.folder_spool.queue.Queue.try_staying.Given as goal

abbrev pub invariant-loop : goal.invariant-loop
invariant-loop g l = OnlyDoes l.initial.self l.self
