use Rattle.cfdp_any_order_script.proofs.Simulating.{flushed_any}
use Rattle.cfdp_any_order_script.proofs.sim.run_script.Goals as goal

pub returns-clause-script : goal.returns-clause-script
returns-clause-script g c =
    flushed_any _ _ _ c.flushed.ensures.kept (g.R.Read.remaining c.args.reader) c.run_any-exit.result.exit c.flushed.result c.run_any-exit.ensures c.flushed.ensures.answer c.flushed.ensures.none
