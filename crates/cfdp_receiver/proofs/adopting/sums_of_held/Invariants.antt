use Rattle.std.proofs.Common.{◌≡◌, length}
use Rattle.std.specs.Prelude.{IsSome}
use Rattle.cfdp_store.specs.Staged.{OthersKeep, staged_for}
use Rattle.cfdp_receiver.proofs.ReadAnew.{IsReadUpTo}
use Rattle.cfdp_receiver.proofs.adopting.sums_of_held.Given as goal

abbrev pub invariant-loop-start : goal.invariant-loop-start
invariant-loop-start g l =
    let staged = g.I.Inbox.staged in
    record {
      begun : IsSome (staged l.inbox l.id);
      room : length l.buffer ≡ length l.initial.buffer;
      read : IsReadUpTo l.wanted l.held (staged_for (staged l.inbox) l.id) l.sums l.start-iterator;
      others : OthersKeep l.id (staged l.initial.inbox) (staged l.inbox);
      published : g.I.Inbox.published l.inbox ≡ g.I.Inbox.published l.initial.inbox;
      failures : g.I.Inbox.failures l.inbox ≡ g.I.Inbox.failures l.initial.inbox;
    }
