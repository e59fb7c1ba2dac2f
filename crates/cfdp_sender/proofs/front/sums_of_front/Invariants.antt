use Rattle.std.proofs.Common.{◌≡◌, ◌-◌, ◌≤◌, length, take}
use Rattle.std.specs.Prelude.{IsTrue}
use Rattle.cfdp_directives.specs.Pdu.Sums.{SumsFit}
use Rattle.cfdp_store.specs.Files.{octets_in}
use Rattle.cfdp_store.specs.Rereading.{Rereads}
use Rattle.cfdp_sender.specs.Inputs.{front_sums}
use Rattle.cfdp_sender.proofs.front.sums_of_front.Given as goal

abbrev pub decreases-loop-at : goal.decreases-loop-at
decreases-loop-at g l = l.end - l.at

abbrev pub invariant-loop-at : goal.invariant-loop-at
invariant-loop-at g l = record {
  within : l.at ≤ l.end;
  sums : IsTrue (g.O.Outbox.stands l.outbox) → l.sums ≡ front_sums l.kind (take l.at (octets_in (g.O.Outbox.files l.outbox) l.name));
  fits : SumsFit l.sums;
  rereads : Rereads (g.O.Outbox.stands l.initial.outbox) (g.O.Outbox.stands l.outbox) (g.O.Outbox.files l.initial.outbox) (g.O.Outbox.files l.outbox);
  failures : g.O.Outbox.failures l.outbox ≡ g.O.Outbox.failures l.initial.outbox;
  room : length l.buffer ≡ length l.initial.buffer;
}
