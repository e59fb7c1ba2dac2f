use Rattle.cfdp_script.proofs.Flushing.{flushed_script, flushed_silent}
use Rattle.cfdp_script.proofs.script.sim.run_sim.Goals as goal

pub returns-clause-script : goal.returns-clause-script
returns-clause-script g c =
    flushed_script _ _ _ c.flushed.ensures.kept (g.R.Read.remaining c.args.reader) c.run_script-exit.result.exit c.flushed.result c.run_script-exit.ensures.script c.flushed.ensures.answer c.flushed.ensures.none

pub returns-clause-silent : goal.returns-clause-silent
returns-clause-silent g c =
    flushed_silent _ _ _ c.flushed.ensures.kept c.run_script-exit.result.exit c.flushed.result c.run_script-exit.ensures.silent c.flushed.ensures.answer
