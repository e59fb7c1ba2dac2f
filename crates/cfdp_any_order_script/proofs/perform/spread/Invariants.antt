use Rattle.cfdp_any_order_script.specs.Performing.{PollsAndFlushes, Times}
use Rattle.cfdp_any_order_script.proofs.perform.spread.Given as goal

-- so often
abbrev pub invariant-loop-done : goal.invariant-loop-done
invariant-loop-done l = Times (PollsAndFlushes l.side) l._done l.initial.play l.play
