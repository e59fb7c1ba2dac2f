use Rattle.std.proofs.Common.{inr, refl}
use Rattle.cfdp_datagrams.proofs.DatagramLemmas.{waits_on}
use Rattle.cfdp_datagrams.proofs.paced_transport.PacedTransport.sends_kept.Goals as goal

pub returns-in-MustWait-clause-sends : goal.returns-in-MustWait-clause-sends
returns-in-MustWait-clause-sends g c = rw (c.fate.ensures.same, ← c.self.view_is) (inr (record {
  datagram = c.in-Some.waiting.now;
  waited = c.in-Some.ensures.some;
  tried = c.send_past_reports-answer.result;
  tries = c.send_past_reports-answer.ensures;
  ends = waits_on c.send_past_reports-answer.result c.self.inside.kept c.self.inside.kept c.in-MustWait.ensures.fate refl;
  rest = refl;
}))
