use Rattle.std.proofs.Common.{map, take}
use Rattle.cfdp_service.specs.Calls.{Chain, Hears}
use Rattle.cfdp_service.proofs.serving.hear_each.Given as goal

-- the indications so far are heard
abbrev pub invariant-loop-indication : goal.invariant-loop-indication
invariant-loop-indication g l = Chain g.U.User.steps (map Hears (take l.indication-index l.all)) l.initial.user l.user
