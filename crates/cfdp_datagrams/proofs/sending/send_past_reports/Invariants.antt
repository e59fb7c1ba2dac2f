use Rattle.std.proofs.Common.{ℕ}
use Rattle.cfdp_station.specs.Transmitting.{Times}
use Rattle.cfdp_datagrams.specs.Paced.{Refuses}
use Rattle.cfdp_datagrams.proofs.sending.send_past_reports.Given as goal

abbrev pub invariant-loop-report : goal.invariant-loop-report
invariant-loop-report g l = (count : ℕ) × Times (Refuses g.T.Transport.steps l.datagram) count l.fn.transport l.transport
