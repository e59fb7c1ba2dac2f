use Rattle.std.proofs.Common.{◌≡◌, take, vec_capacity, vec_len}
use Rattle.cfdp_any_order_script.specs.Performing.{Runs}
use Rattle.cfdp_any_order_script.proofs.run.perform_all.Given as goal

-- the commands so far are done, and there is room for the others' answers
abbrev pub invariant-loop-step : goal.invariant-loop-step
invariant-loop-step l =
    Runs (take l.step-index l.steps) l.answered.items l.initial.play l.play
    × (vec_len l.answered ≡ l.step-index) × (vec_capacity l.answered ≡ vec_capacity l.initial.answered)
