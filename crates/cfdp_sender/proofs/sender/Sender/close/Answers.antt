use Rattle.std.proofs.Common.{ap}
use Rattle.cfdp_sender.specs.Names.{NamesState}
use Rattle.cfdp_sender.proofs.Invariants.{asked-none}
use Rattle.cfdp_sender.proofs.sender.Sender.close.Goals as goal

pub invariant_of-self : goal.invariant_of-self
invariant_of-self c = record {
  sender = record {
    transfer = rw c.let_go.ensures c.self.invariant.sender.transfer;
    sent = c.self.invariant.sender.sent;
    sums = c.self.invariant.sender.sums;
    asked = asked-none _ _ c.clear.ensures;
    ack = c.self.invariant.sender.ack;
    condition = c.self.invariant.sender.condition;
    cause = tt;
  };
  names = ap (λ (n : NamesState). n.kept) c.let_go.ensures;
}
