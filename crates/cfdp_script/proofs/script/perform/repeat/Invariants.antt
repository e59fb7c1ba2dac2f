use Rattle.link_sim.specs.Spreading.{Times}
use Rattle.link_sim.specs.World.Steps.{Steps}
use Rattle.link_sim.specs.declared.event.Applied.TheVariants.{Applied}
use Rattle.cfdp_script.proofs.script.perform.repeat.Given as goal

-- it happened so many times
abbrev pub invariant-loop-done : goal.invariant-loop-done
invariant-loop-done g l =
    Times (Steps l.event Applied) l.done (g.S.Stations.world l.initial.stations) (g.S.Stations.world l.stations)
