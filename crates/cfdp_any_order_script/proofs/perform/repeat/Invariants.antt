use Rattle.std.proofs.Common.{None}
use Rattle.cfdp_any_order_script.specs.Performing.{HappensOnce, Times}
use Rattle.cfdp_any_order_script.proofs.perform.repeat.Given as goal

-- it happened so many times
abbrev pub invariant-loop-done : goal.invariant-loop-done
invariant-loop-done l = Times (HappensOnce l.event None) l.done l.initial.play l.play
