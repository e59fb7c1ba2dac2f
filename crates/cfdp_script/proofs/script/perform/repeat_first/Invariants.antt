use Rattle.std.proofs.Common.{None}
use Rattle.link_sim.specs.Spreading.{Times}
use Rattle.cfdp_script.specs.Script.Run.{HappensToFirst}
use Rattle.cfdp_script.proofs.script.perform.repeat_first.Given as goal

-- it happened to so many
abbrev pub invariant-loop-done : goal.invariant-loop-done
invariant-loop-done g l =
    Times (HappensToFirst l.fate l.from None) l.done (g.S.Stations.world l.initial.stations) (g.S.Stations.world l.stations)
