use Rattle.std.proofs.Common.{take}
use Rattle.std.specs.Io.KnownBytes.{Appends}
use Rattle.cfdp_watch.specs.StationCapture.{station_records}
use Rattle.cfdp_watch.proofs.station_capture.write_station_records.Given as goal

-- the records so far are written
abbrev pub invariant-loop-sighting : goal.invariant-loop-sighting
invariant-loop-sighting g l =
    Appends (g.W.Write.contents l.initial.out) (g.W.Write.contents l.out) (station_records l.time (take l.sighting-index l.sightings))
