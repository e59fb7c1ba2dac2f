use Rattle.cfdp_script.proofs.Running.{run_ended, run_unwritten}
use Rattle.cfdp_script.proofs.script.run.run_into.Goals as goal

pub returns-in-Ok : goal.returns-in-Ok
returns-in-Ok g c =
    run_ended c.in-Ok.exit c.args.steps.now c.as_slice.result.now (g.S.Stations.world c.args.stations.now) (g.S.Stations.world c.perform_all.new.stations) _ _
    (rw c.as_slice.ensures.value c.perform_all.ensures) c.in-Ok.ensures.ends c.in-Ok.ensures.written

pub returns-in-Err : goal.returns-in-Err
returns-in-Err g c =
    run_unwritten c.args.steps.now c.as_slice.result.now (g.S.Stations.world c.args.stations.now) (g.S.Stations.world c.perform_all.new.stations)
    (rw c.as_slice.ensures.value c.perform_all.ensures)
