use Rattle.std.proofs.Common.{ℕ, List, Option, Some, None, IfSome, ap, subst, ◌∙◌}
use Rattle.std.specs.Option.{option_map}
use Rattle.cfdp_directives.specs.Pdu.Addressing.{written_len}
use Rattle.cfdp_directives.specs.Pdu.Codes.{is_large}
use Rattle.cfdp_sender.specs.declared.due.SenderDue.{SenderDue}
use Rattle.cfdp_sender.specs.Due.{sender_says}
use Rattle.cfdp_sender.specs.State.{SenderState}
use Rattle.cfdp_entity.proofs.Records.{len-of-sender}
use Rattle.cfdp_entity.proofs.Spelled.{CanWriteOf, sender-spelled}
use Rattle.cfdp_entity.proofs.record.due_of_sender.Goals as goal

-- what can be written of what is due, and how long it is
abbrev CanWriteDue : SenderState → List ℕ → Option SenderDue → Type 0
CanWriteDue x file o = IfSome o (λ d. CanWriteOf (is_large x.size) x.addressing (sender_says file x d))

abbrev written : SenderState → List ℕ → SenderDue → ℕ
written x file d = written_len x.addressing (is_large x.size) (sender_says file x d)

pub returns-in-Some-clause-len : goal.returns-in-Some-clause-len
returns-in-Some-clause-len c = λ sources own. len-of-sender sources c.args.sender.now (Some c.len_of.result) own
    (λ file whole. ap Some (c.len_of.ensures.len file whole) ∙ ap (option_map (written c.args.sender.now file)) c.in-Some.ensures)

pub returns-in-None-clause-len : goal.returns-in-None-clause-len
returns-in-None-clause-len c = λ sources own. len-of-sender sources c.args.sender.now None own
    (λ file whole. ap (option_map (written c.args.sender.now file)) c.in-None.ensures)

pub returns-in-Some-clause-spelled : goal.returns-in-Some-clause-spelled
returns-in-Some-clause-spelled c = λ sources. sender-spelled sources c.args.sender.now
    (λ file. subst (CanWriteDue c.args.sender.now file) c.in-Some.ensures (c.len_of.ensures.can_write file))

pub returns-in-None-clause-spelled : goal.returns-in-None-clause-spelled
returns-in-None-clause-spelled c = λ sources. sender-spelled sources c.args.sender.now
    (λ file. subst (CanWriteDue c.args.sender.now file) c.in-None.ensures tt)
