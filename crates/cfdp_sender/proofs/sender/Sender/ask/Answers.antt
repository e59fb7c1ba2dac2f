use Rattle.std.proofs.Common.{arith}
use Rattle.cfdp_sender.proofs.Invariants.{asked-inserted}
use Rattle.cfdp_sender.proofs.sender.Sender.ask.Goals as goal

pub invariant_of-self-then-start-end : goal.invariant_of-self-then-start-end
invariant_of-self-then-start-end c = record {
  sender = record {
    transfer = c.self.invariant.sender.transfer;
    sent = c.self.invariant.sender.sent;
    sums = c.self.invariant.sender.sums;
    asked = asked-inserted _ _ _ _ _ c.insert.result c.self.invariant.sender.asked
        (omega (arith, c.min-end.ensures)) c.insert.ensures.ok c.insert.ensures.err;
    ack = c.self.invariant.sender.ack;
    condition = c.self.invariant.sender.condition;
    cause = c.self.invariant.sender.cause;
  };
  names = c.self.invariant.names;
}
