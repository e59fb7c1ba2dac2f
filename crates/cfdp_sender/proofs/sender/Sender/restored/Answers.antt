use Rattle.std.proofs.Common.{◌≡◌, true, false, sym, ap, subst, ◌∙◌}
use Rattle.std.proofs.lemmas.Bool.{false≢true}
use Rattle.std.specs.FinSet as set
use Rattle.std.specs.Ordering.{nat_cmp}
use Rattle.cfdp_directives.specs.Pdu.Codes.{IsCondition}
use Rattle.cfdp_directives.specs.User.FileName.{IsFileName}
use Rattle.cfdp_extents.specs.Offsets.{Offsets}
use Rattle.cfdp_sender.proofs.sender.Sender.restored.Goals as goal

pub invariant_of-sender : goal.invariant_of-sender
invariant_of-sender c = record {
  sender = record {
    transfer = record {
      addressing = c.requires.committed.sendable.addressing;
      kind = c.requires.committed.sendable.kind;
      some = c.requires.committed.sendable.some;
      most = c.requires.committed.sendable.most;
      source = subst IsFileName (sym c.names_in-names.ensures.source) c.requires.committed.sendable.source;
      destination = subst IsFileName (sym c.names_in-names.ensures.destination) c.requires.committed.sendable.destination;
      size = c.requires.committed.sendable.size;
    };
    sent = c.requires.sent;
    sums = c.requires.sums;
    asked = λ n has. absurd (false≢true (sym (ap (λ (s : Offsets). set.contains s n) c.new.ensures ∙ set.contains-empty nat_cmp n) ∙ has));
    ack = tt;
    condition = subst IsCondition c.code-code.ensures.value c.code-code.ensures.valid;
    cause = c.requires.committed.cause;
  };
  names = c.names_in-names.ensures.kept;
}
