use Rattle.std.proofs.Common.{sym, ap, subst, ◌∙◌}
use Rattle.std.specs.FinMap as map
use Rattle.cfdp_entity.specs.declared.record.Record.{Record}
use Rattle.cfdp_entity.specs.Found.{found_due}
use Rattle.cfdp_entity.specs.Seen.{seen, due_len}
use Rattle.cfdp_entity.specs.Spelled.{SeenIsSpelled}
use Rattle.cfdp_entity.specs.Whole.{IsReadyRecord}
use Rattle.cfdp_entity.proofs.Entries.{ready-sender}
use Rattle.cfdp_entity.proofs.record.Record.due.Goals as goal

pub returns-in-Sends-clause-due : goal.returns-in-Sends-clause-due
returns-in-Sends-clause-due c = λ staged. c.due_of_sender.ensures.due ∙ ap (λ (k : Record). found_due (seen staged k)) (sym c.in-Sends.is)

pub returns-in-Sends-clause-len : goal.returns-in-Sends-clause-len
returns-in-Sends-clause-len c = λ staged sources id is_ready.
    c.due_of_sender.ensures.len sources (ready-sender staged sources id c.in-Sends.sender (subst (IsReadyRecord staged sources id) c.in-Sends.is is_ready)).1
    ∙ ap (λ (k : Record). due_len sources (seen (staged id) k)) (sym c.in-Sends.is)

pub returns-in-Sends-clause-spelled : goal.returns-in-Sends-clause-spelled
returns-in-Sends-clause-spelled c = λ staged sources. subst (λ (k : Record). SeenIsSpelled sources (seen staged k)) (sym c.in-Sends.is)
    (c.due_of_sender.ensures.spelled sources)

pub returns-in-Receives-clause-due : goal.returns-in-Receives-clause-due
returns-in-Receives-clause-due c = λ staged. c.due_of_receiver.ensures.due ∙ ap (λ (k : Record). found_due (seen staged k)) (sym c.in-Receives.is)

pub returns-in-Receives-clause-len : goal.returns-in-Receives-clause-len
returns-in-Receives-clause-len c = λ staged sources id is_ready.
    c.due_of_receiver.ensures.len sources map.empty ∙ ap (λ (k : Record). due_len sources (seen (staged id) k)) (sym c.in-Receives.is)

pub returns-in-Receives-clause-spelled : goal.returns-in-Receives-clause-spelled
returns-in-Receives-clause-spelled c = λ staged sources.
    subst (λ (k : Record). SeenIsSpelled sources (seen staged k)) (sym c.in-Receives.is) (c.due_of_receiver.ensures.spelled sources _)
