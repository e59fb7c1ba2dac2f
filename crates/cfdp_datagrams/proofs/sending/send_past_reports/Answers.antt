use Rattle.std.proofs.Common.{suc}
use Rattle.cfdp_datagrams.proofs.sending.send_past_reports.Goals as goal

pub loop-report-preserved : goal.loop-report-preserved
loop-report-preserved g c = (suc c.loop-report.invariant.0, (c.loop-report.transport, c.loop-report.invariant.1, (c.in-Err.kind, c.in-Err.ensures)))
