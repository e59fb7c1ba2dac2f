use Rattle.cfdp_watch.specs.StationCapture.{station_records}
use Rattle.cfdp_dump.proofs.TextLines.{appends_flushed}
use Rattle.cfdp_watch.proofs.station_capture.write_station_capture.Goals as goal

pub returns-clause-written : goal.returns-clause-written
returns-clause-written g c =
    appends_flushed _ _ _ _ (station_records c.args.time c.args.sightings.now) c.in_ok-write_station_records.ensures c.flush.ensures.bytes
