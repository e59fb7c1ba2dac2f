use Rattle.std.proofs.Common.{take}
use Rattle.cfdp_dump.specs.Spelled.Lines.{WritesLines}
use Rattle.cfdp_watch.specs.Chart.{ChartsSighting}
use Rattle.cfdp_watch.proofs.chart.write_lines.Given as goal

-- the lines of those seen so far are written
abbrev pub invariant-loop-sighting : goal.invariant-loop-sighting
invariant-loop-sighting g l =
    WritesLines (ChartsSighting l.shapes) (take l.sighting-index l.sightings) (g.W.Write.contents l.initial.out) (g.W.Write.contents l.out)
