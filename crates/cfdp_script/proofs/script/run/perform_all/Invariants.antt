use Rattle.std.proofs.Common.{◌≡◌, take, vec_capacity, vec_len}
use Rattle.cfdp_script.specs.Script.Run.{Runs}
use Rattle.cfdp_script.proofs.script.run.perform_all.Given as goal

-- the commands so far are done, and there is room for the others' answers
abbrev pub invariant-loop-step : goal.invariant-loop-step
invariant-loop-step g l =
    Runs (take l.step-index l.steps) l.answered.items (g.S.Stations.world l.initial.stations) (g.S.Stations.world l.stations)
    × (vec_len l.answered ≡ l.step-index) × (vec_capacity l.answered ≡ vec_capacity l.initial.answered)
