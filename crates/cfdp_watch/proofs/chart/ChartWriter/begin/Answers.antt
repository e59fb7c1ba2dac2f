use Rattle.std.proofs.Common.{refl}
use Rattle.cfdp_watch.proofs.Charts.{chart_begun}
use Rattle.cfdp_watch.proofs.chart.ChartWriter.begin.Goals as goal

pub returns-clause-begun : goal.returns-clause-begun
returns-clause-begun g c = chart_begun _ _ _ _ _ refl c.in_ok-write_all.ensures.bytes c.flush.ensures.bytes
