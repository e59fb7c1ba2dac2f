use Rattle.std.proofs.Common.{take}
use Rattle.std.proofs.lemmas.List.{take_more}
use Rattle.cfdp_watch.specs.StationCapture.{station_record_octets}
use Rattle.cfdp_watch.proofs.StationCaptures.{one_more}
use Rattle.cfdp_watch.proofs.station_capture.write_station_records.Goals as goal

pub loop-sighting-preserved : goal.loop-sighting-preserved
loop-sighting-preserved g c =
    rw (take_more c.args.sightings.now c.loop-sighting.sighting-index c.sighting-item.result c.loop-sighting-test.true, ← c.sighting-item.is)
    (one_more (station_record_octets c.args.time) (take c.loop-sighting.sighting-index c.args.sightings.now) c.sighting-item.result _ _ _ c.loop-sighting.invariant c.in_ok-write_station_record.ensures)
