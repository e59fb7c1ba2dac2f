use Rattle.std.proofs.Common.{◌≡◌, ◌-◌, ◌<◌, ◌≤◌, ℕ, true, length}
use Rattle.std.specs.Prelude.{IsSome}
use Rattle.std.specs.FinSet as set
use Rattle.cfdp_extents.specs.Offsets.{Offsets}
use Rattle.cfdp_store.specs.Staged.{OthersKeep, staged_for}
use Rattle.cfdp_receiver.specs.Summed.{SumsBelow}
use Rattle.cfdp_receiver.proofs.adopting.add_range.Given as goal

abbrev pub decreases-loop-at : goal.decreases-loop-at
decreases-loop-at g l = l.end - l.at

abbrev pub invariant-loop-at : goal.invariant-loop-at
invariant-loop-at g l =
    let staged = g.I.Inbox.staged in
    record {
      begun : IsSome (staged l.inbox l.id);
      from : l.start ≤ l.at;
      within : l.at ≤ l.end;
      room : length l.buffer ≡ length l.initial.buffer;
      added : (held : Offsets) → SumsBelow l.wanted held l.start (staged_for (staged l.initial.inbox) l.id) l.initial.sums
          → ((n : ℕ) → l.start ≤ n → n < l.end → set.contains held n ≡ true)
          → SumsBelow l.wanted held l.at (staged_for (staged l.inbox) l.id) l.sums;
      others : OthersKeep l.id (staged l.initial.inbox) (staged l.inbox);
      published : g.I.Inbox.published l.inbox ≡ g.I.Inbox.published l.initial.inbox;
      failures : g.I.Inbox.failures l.inbox ≡ g.I.Inbox.failures l.initial.inbox;
    }
