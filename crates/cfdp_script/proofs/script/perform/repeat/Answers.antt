use Rattle.std.proofs.Common.{ℕ, sym, subst, add-one}
use Rattle.link_sim.specs.Spreading.{Times}
use Rattle.link_sim.specs.World.Steps.{Steps}
use Rattle.link_sim.specs.declared.event.Applied.TheVariants.{Applied}
use Rattle.cfdp_script.proofs.script.perform.repeat.Goals as goal

pub returns-in-Some : goal.returns-in-Some
returns-in-Some g c =
    (c.loop-done.done, c.loop-done-test.true, g.S.Stations.world c.loop-done.stations, c.loop-done.invariant, c.in-Some.answer, c.told_after.ensures, c.in-Some.ensures)

pub loop-done-preserved : goal.loop-done-preserved
loop-done-preserved g c =
    let Often : ℕ → Type 0 = λ n. Times (Steps c.args.event.now Applied) n (g.S.Stations.world c.args.stations.now) (g.S.Stations.world c.once.new.stations) in
    subst Often (sym (add-one c.loop-done.done)) (g.S.Stations.world c.loop-done.stations, c.loop-done.invariant, c.in_default.ensures)
