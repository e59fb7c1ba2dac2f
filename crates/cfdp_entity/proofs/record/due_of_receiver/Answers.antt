use Rattle.std.proofs.Common.{Option, IfSome, ap, subst, ◌∙◌}
use Rattle.cfdp_receiver.specs.declared.due.Due.{Due}
use Rattle.cfdp_receiver.specs.Said.{CanSay}
use Rattle.cfdp_receiver.specs.State.{ReceiverState}
use Rattle.cfdp_entity.specs.Seen.{receiver_content, len_of}
use Rattle.cfdp_entity.proofs.Spelled.{receiver-spelled}
use Rattle.cfdp_entity.proofs.record.due_of_receiver.Goals as goal

-- what can be written of what is due
abbrev CanSayDue : ReceiverState → Option Due → Type 0
CanSayDue r o = IfSome o (λ d. CanSay r d)

pub returns-in-Some-clause-len : goal.returns-in-Some-clause-len
returns-in-Some-clause-len c = λ sources m.
    let r = c.args.receiver.now in
    c.len_of.ensures.len ∙ ap (λ o. len_of r.large r.addressing (receiver_content r o)) c.in-Some.ensures.due

pub returns-in-None-clause-len : goal.returns-in-None-clause-len
returns-in-None-clause-len c = λ sources m.
    let r = c.args.receiver.now in
    ap (λ o. len_of r.large r.addressing (receiver_content r o)) c.in-None.ensures.due

pub returns-in-Some-clause-spelled : goal.returns-in-Some-clause-spelled
returns-in-Some-clause-spelled c = λ sources m. receiver-spelled sources c.args.receiver.now m
    (subst (CanSayDue c.args.receiver.now) c.in-Some.ensures.due c.len_of.ensures.can_write)

pub returns-in-None-clause-spelled : goal.returns-in-None-clause-spelled
returns-in-None-clause-spelled c = λ sources m. receiver-spelled sources c.args.receiver.now m
    (subst (CanSayDue c.args.receiver.now) c.in-None.ensures.due tt)
