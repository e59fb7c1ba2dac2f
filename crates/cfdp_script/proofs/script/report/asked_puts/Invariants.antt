use Rattle.std.proofs.Common.{◌≡◌, ◌≤◌, take, sum_by}
use Rattle.cfdp_script.specs.Script.Run.{puts_in}
use Rattle.cfdp_script.proofs.script.report.asked_puts.Given as goal

-- the puts so far are counted
abbrev pub invariant-loop-step : goal.invariant-loop-step
invariant-loop-step l = (l.count ≡ sum_by puts_in (take l.step-index l.steps)) × (l.count ≤ l.step-index)
