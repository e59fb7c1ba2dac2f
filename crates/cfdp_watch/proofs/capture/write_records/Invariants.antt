use Rattle.std.proofs.Common.{take}
use Rattle.std.specs.Io.KnownBytes.{Appends}
use Rattle.std.specs.List.{flat_map}
use Rattle.cfdp_watch.specs.Capture.{record_octets}
use Rattle.cfdp_watch.proofs.capture.write_records.Given as goal

-- the records so far are written
abbrev pub invariant-loop-sighting : goal.invariant-loop-sighting
invariant-loop-sighting g l =
    Appends (g.W.Write.contents l.initial.out) (g.W.Write.contents l.out) (flat_map record_octets (take l.sighting-index l.sightings))
