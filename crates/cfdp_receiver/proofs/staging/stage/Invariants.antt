use Rattle.std.proofs.Common.{◌≡◌, ◌+◌, ◌≤◌, length}
use Rattle.std.specs.Prelude.{IsSome}
use Rattle.std.specs.List.{All}
use Rattle.cfdp_extents.specs.Offsets.{LiesIn}
use Rattle.cfdp_store.specs.Staged.{OthersKeep, staged_for}
use Rattle.cfdp_receiver.specs.Pieces.{pieces_in, staged_with}
use Rattle.cfdp_receiver.proofs.Chains.{Wrote}
use Rattle.cfdp_receiver.proofs.staging.stage.Given as goal

abbrev pub invariant-loop-start : goal.invariant-loop-start
invariant-loop-start g l =
    let staged = g.I.Inbox.staged in
    record {
      begun : IsSome (staged l.inbox l.id);
      octets : staged_with (staged_for (staged l.inbox) l.id)
          (pieces_in l.offset l.bytes l.start-iterator)
          ≡ staged_with (staged_for (staged l.fn.inbox) l.id)
          (pieces_in l.offset l.bytes l.fn.gaps);
      inside : All (LiesIn l.offset (l.offset + length l.bytes)) l.start-iterator;
      others : OthersKeep l.id (staged l.fn.inbox) (staged l.inbox);
      published : g.I.Inbox.published l.inbox ≡ g.I.Inbox.published l.fn.inbox;
      wrote : Wrote g.I.Inbox.steps g.I.Inbox.failures l.id (pieces_in l.offset l.bytes l.fn.gaps)
          (pieces_in l.offset l.bytes l.start-iterator) l.fn.inbox l.inbox;
      counts : g.I.Inbox.failures l.fn.inbox ≤ g.I.Inbox.failures l.inbox;
    }
