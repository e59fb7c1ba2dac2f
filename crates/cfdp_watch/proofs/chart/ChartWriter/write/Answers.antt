use Rattle.std.proofs.Common.{refl}
use Rattle.cfdp_watch.proofs.Charts.{chart_goes_on}
use Rattle.cfdp_watch.proofs.chart.ChartWriter.write.Goals as goal

pub returns-clause-goes_on : goal.returns-clause-goes_on
returns-clause-goes_on g c =
    chart_goes_on _ _ _ _ c.args.sightings.now _ _ _ _ refl c.saturating_sub-room.ensures c.saturating_add-self.ensures c.first_of.ensures c.in_ok-write_lines.ensures c.flush.ensures.bytes
