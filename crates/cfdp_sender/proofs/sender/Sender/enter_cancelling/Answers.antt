use Rattle.cfdp_sender.proofs.Invariants.{asked-none}
use Rattle.cfdp_sender.proofs.sender.Sender.enter_cancelling.Goals as goal

pub invariant_of-self : goal.invariant_of-self
invariant_of-self c = record {
  sender = record {
    transfer = c.self.invariant.sender.transfer;
    sent = c.self.invariant.sender.sent;
    sums = c.self.invariant.sender.sums;
    asked = asked-none _ _ c.clear.ensures;
    ack = c.self.invariant.sender.ack;
    condition = rw (← c.code-code.ensures.value) c.code-code.ensures.valid;
    cause = c.requires;
  };
  names = tt;
}
