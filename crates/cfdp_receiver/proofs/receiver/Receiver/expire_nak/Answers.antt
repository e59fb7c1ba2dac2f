use Rattle.std.proofs.Common.{rules}
use Rattle.cfdp_receiver.proofs.receiver.Receiver.expire_nak.Goals as goal

pub returns-then-eq-clause-advances : goal.returns-then-eq-clause-advances
returns-then-eq-clause-advances g c = record {
  does = record { receiver = search rules; tells = search rules; timers = search rules; files = search rules; octets = search rules; counts = search rules };
  kept = record { addressing = search rules; ready = search rules; others = search rules; grows = search rules; lets_go = search rules };
  calls = search rules;
}

pub returns-else-eq-clause-advances : goal.returns-else-eq-clause-advances
returns-else-eq-clause-advances g c = record {
  does = record { receiver = search rules; tells = search rules; timers = search rules; files = search rules; octets = search rules; counts = search rules };
  kept = record { addressing = search rules; ready = search rules; others = search rules; grows = search rules; lets_go = search rules };
  calls = search rules;
}
