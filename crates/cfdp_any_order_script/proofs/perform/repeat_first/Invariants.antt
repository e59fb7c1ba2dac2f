use Rattle.std.proofs.Common.{None}
use Rattle.cfdp_any_order_script.specs.Performing.{BefallsFirst, Times}
use Rattle.cfdp_any_order_script.proofs.perform.repeat_first.Given as goal

-- it happened to so many
abbrev pub invariant-loop-done : goal.invariant-loop-done
invariant-loop-done l = Times (BefallsFirst l.fate l.from None) l.done l.initial.play l.play
