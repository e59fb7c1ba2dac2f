use Rattle.cfdp_watch.proofs.Captures.{capture_goes_on}
use Rattle.cfdp_watch.proofs.capture.write_capture.Goals as goal

pub returns-clause-goes_on : goal.returns-clause-goes_on
returns-clause-goes_on g c =
    capture_goes_on _ c.args.sightings.now _ _ _ c.in_ok-write_records.ensures c.flush.ensures.bytes
