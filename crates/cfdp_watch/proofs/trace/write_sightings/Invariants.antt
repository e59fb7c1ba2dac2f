use Rattle.std.proofs.Common.{take}
use Rattle.cfdp_dump.specs.Spelled.Lines.{WritesLines}
use Rattle.cfdp_watch.specs.Trace.{TellsSighting}
use Rattle.cfdp_watch.proofs.trace.write_sightings.Given as goal

-- the lines of those seen so far are written
abbrev pub invariant-loop-sighting : goal.invariant-loop-sighting
invariant-loop-sighting g l =
    WritesLines (TellsSighting l.shapes) (take l.sighting-index l.sightings) (g.W.Write.contents l.initial.out) (g.W.Write.contents l.out)
