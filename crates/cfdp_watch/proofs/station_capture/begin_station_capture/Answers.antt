use Rattle.cfdp_watch.specs.StationCapture.{station_header_octets}
use Rattle.cfdp_dump.proofs.TextLines.{appends_flushed}
use Rattle.cfdp_watch.proofs.station_capture.begin_station_capture.Goals as goal

pub returns-clause-begun : goal.returns-clause-begun
returns-clause-begun g c =
    appends_flushed _ _ _ _ station_header_octets c.in_ok-write_all.ensures.bytes c.flush.ensures.bytes
