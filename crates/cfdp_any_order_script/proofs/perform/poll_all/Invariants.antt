use Rattle.cfdp_any_order_script.specs.Performing.{PollsOn, Times}
use Rattle.cfdp_any_order_script.proofs.perform.poll_all.Given as goal

-- so often
abbrev pub invariant-loop-done : goal.invariant-loop-done
invariant-loop-done l = Times (PollsOn l.side) l._done l.initial.play l.play
