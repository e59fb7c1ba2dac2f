use Rattle.std.proofs.Common.{arith, true}
use Rattle.cfdp_directives.proofs.FileSizes.{limit_low}
use Rattle.cfdp_sender.proofs.Invariants.{asked-taken}
use Rattle.cfdp_sender.proofs.sender.Sender.note_sent.Goals as goal

pub invariant_of-self-in-AskedData : goal.invariant_of-self-in-AskedData
invariant_of-self-in-AskedData c = record {
  sender = record {
    transfer = c.self-in-AskedData.invariant.sender.transfer;
    sent = c.self-in-AskedData.invariant.sender.sent;
    sums = c.self-in-AskedData.invariant.sender.sums;
    asked = asked-taken _ _ _ _ c.self-in-AskedData.invariant.sender.asked c.take_front.ensures.none c.take_front.ensures.rest;
    ack = c.self-in-AskedData.invariant.sender.ack;
    condition = c.self-in-AskedData.invariant.sender.condition;
    cause = c.self-in-AskedData.invariant.sender.cause;
  };
  names = c.self-in-AskedData.invariant.names;
}

pub add-requires : goal.add-requires
add-requires c =
    omega (arith, c.self-in-NewData.invariant.sender.sent, c.self-in-NewData.invariant.sender.transfer.size, limit_low true, c.requires.short)
