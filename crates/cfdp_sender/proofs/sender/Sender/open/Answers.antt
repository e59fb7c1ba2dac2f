use Rattle.std.proofs.Common.{lit<, refl, ap, arith}
use Rattle.cfdp_sender.specs.Names.{NamesState}
use Rattle.cfdp_sender.proofs.Invariants.{asked-none}
use Rattle.cfdp_sender.proofs.sender.Sender.open.Goals as goal

pub invariant_of-result-2 : goal.invariant_of-result-2
invariant_of-result-2 c = record {
  sender = record {
    transfer = rw c.new.ensures c.requires.sendable;
    sent = omega arith;
    sums = c.new-2.ensures.fits;
    asked = asked-none _ _ c.new-3.ensures;
    ack = tt;
    condition = (lit< tt, refl);
    cause = tt;
  };
  names = ap (λ (n : NamesState). n.kept) c.new.ensures;
}
