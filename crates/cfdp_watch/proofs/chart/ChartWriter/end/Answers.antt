use Rattle.cfdp_watch.proofs.Charts.{chart_ended}
use Rattle.cfdp_watch.proofs.chart.ChartWriter.end.Goals as goal

pub returns-clause-whole : goal.returns-clause-whole
returns-clause-whole g c = chart_ended _ _ _ _ _ c.in_ok-write_rest.ensures c.flush.ensures.bytes
