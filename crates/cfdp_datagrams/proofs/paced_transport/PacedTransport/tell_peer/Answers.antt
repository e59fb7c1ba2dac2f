use Rattle.std.proofs.Common.{inr, refl, sym, ◌∙◌}
use Rattle.cfdp_datagrams.proofs.paced_transport.PacedTransport.tell_peer.Goals as goal

pub returns : goal.returns
returns g c = rw (c.fate.ensures.same, c.leaves.ensures, ← c.self.view_is) (inr (record {
  beacon = c.in-Some.beacon.now;
  there = sym c.leaves.ensures ∙ c.in-Some.ensures.some;
  tried = c.send_past_reports-answer.result;
  tries = c.send_past_reports-answer.ensures;
  rest = refl;
}))
