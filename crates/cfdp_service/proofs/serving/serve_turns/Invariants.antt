use Rattle.std.proofs.Common.{[], List, ◌<◌}
use Rattle.cfdp_station.specs.Transmitting.{Times}
use Rattle.cfdp_port.specs.Port.{table_of}
use Rattle.cfdp_service.specs.Calls.{Chain, UserCall}
use Rattle.cfdp_service.specs.Serving.{GoesOn, HearsGone}
use Rattle.cfdp_service.proofs.serving.serve_turns.Given as goal

-- so many turns were taken, by these calls of the user
abbrev pub invariant-loop-before : goal.invariant-loop-before
invariant-loop-before g l = (calls : List UserCall)
    × Times (GoesOn g.W.Wire.steps) l.before (record { port = l.initial.port; calls = []; lacking = 0 })
    (record { port = l.port; calls = calls; lacking = l.lacking })
    × Chain g.U.User.steps calls l.initial.user l.user
    × HearsGone calls (table_of l.port.station)
    × (l.lacking < 100)
