use Rattle.std.proofs.lemmas.List.{take_more}
use Rattle.cfdp_watch.specs.Chart.{ChartsSighting}
use Rattle.cfdp_dump.proofs.TextLines.{lines-none, lines-more}
use Rattle.cfdp_watch.proofs.chart.write_lines.Goals as goal

pub loop-sighting-init : goal.loop-sighting-init
loop-sighting-init g c = lines-none (ChartsSighting c.args.shapes) _

pub loop-sighting-preserved : goal.loop-sighting-preserved
loop-sighting-preserved g c =
    rw (take_more c.args.sightings.now c.loop-sighting.sighting-index c.sighting-item.result c.loop-sighting-test.true, ← c.sighting-item.is)
    (lines-more (ChartsSighting c.args.shapes) _ c.sighting-item.result _ _ _ c.loop-sighting.invariant c.in_ok-write_arrow.ensures)
