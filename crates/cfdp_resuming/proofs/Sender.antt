-- A sender that is brought back sends its put.
use Rattle.std.proofs.Common.{ℕ, ◌≤◌, sym, ap, subst, ◌∙◌}
use Rattle.cfdp_directives.specs.User.Put.{Put}
use Rattle.cfdp_sender.specs.declared.transfer.Transfer.{Transfer}
use Rattle.cfdp_sender.specs.State.{SenderState}
use Rattle.cfdp_sender.specs.Inputs.{IsSenderOf}
use Rattle.cfdp_sender.specs.InFile.{IsInFile}
use Rattle.cfdp_resuming.specs.Sender.{IsRestoredSender}

pub restored-sends : (put : Put) (x s : SenderState) → IsRestoredSender put.octets x s → IsSenderOf put x → IsInFile x → IsSenderOf put s × IsInFile s
restored-sends put x s is of within = (
  record {
    id = ap (λ (t : Transfer). t.addressing.id) is.transfer ∙ of.id;
    source = ap (λ (t : Transfer). t.source) is.transfer ∙ of.source;
    destination = ap (λ (t : Transfer). t.destination) is.transfer ∙ of.destination;
    kind = ap (λ (t : Transfer). t.checksum_kind) is.transfer ∙ of.kind;
    size = ap (λ (t : Transfer). t.size) is.transfer ∙ of.size;
    front = is.front;
  },
  record {
    some = subst (λ (n : ℕ). 1 ≤ n) (sym (ap (λ (t : Transfer). t.segment) is.transfer)) within.some;
    sent = is.sent;
    asked = is.asked;
    cause = is.cause;
  },
)
