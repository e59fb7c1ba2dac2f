use Rattle.cfdp_watch.proofs.Traces.{trace_goes_on}
use Rattle.cfdp_watch.proofs.trace.write_trace.Goals as goal

pub returns-clause-goes_on : goal.returns-clause-goes_on
returns-clause-goes_on g c =
    trace_goes_on _ c.args.shapes c.args.sightings.now _ _ _ c.in_ok-write_sightings.ensures c.flush.ensures.bytes
