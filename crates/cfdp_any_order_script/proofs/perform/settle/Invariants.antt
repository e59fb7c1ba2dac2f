use Rattle.std.proofs.Common.{◌≡◌, ◌≤◌}
use Rattle.cfdp_any_order_script.proofs.Settling.{HasSettled}
use Rattle.cfdp_any_order_script.proofs.perform.settle.Given as goal

-- a number of events; the last ones had nothing to do
abbrev pub invariant-loop-done : goal.invariant-loop-done
invariant-loop-done l = HasSettled l._done l.turn l.idle l.initial.play l.play
