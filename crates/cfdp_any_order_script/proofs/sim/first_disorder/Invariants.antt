use Rattle.std.proofs.Common.{◌≡◌, drop}
use Rattle.cfdp_any_order_script.specs.Simulated.{first_disorder}
use Rattle.cfdp_any_order_script.proofs.sim.first_disorder.Given as goal

-- none stands before those that are left
abbrev pub invariant-loop-step : goal.invariant-loop-step
invariant-loop-step l = first_disorder l.steps ≡ first_disorder (drop l.step-index l.steps)
