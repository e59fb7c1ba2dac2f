use Rattle.cfdp_log.specs.Log.Lines.{Completes}
use Rattle.cfdp_log.proofs.LogLines.{logs_kept}
use Rattle.cfdp_log.proofs.station_log.StationLog.ends.Goals as goal

pub returns-clause-logs : goal.returns-clause-logs
returns-clause-logs g c =
    logs_kept (Completes c.args.self.now.totals.complete c.args.self.now.totals.asked) c.args.self.now c.tells_end.new.self c.write_out.new.self
    c.tells_end.ensures.logs c.write_out.ensures.own c.write_out.ensures.style c.write_out.ensures.kept c.write_out.ensures.before
