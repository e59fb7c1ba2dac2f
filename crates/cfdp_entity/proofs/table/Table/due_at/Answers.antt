use Rattle.std.proofs.Common.{sym, ap, subst, ◌∙◌, slice_get}
use Rattle.cfdp_entity.specs.Found.{found_at, found_in, is_data}
use Rattle.cfdp_entity.specs.Roomy.{Roomy}
use Rattle.cfdp_entity.specs.Spelled.{EntryIsSpelled}
use Rattle.cfdp_entity.specs.Table.{len_at, len_due}
use Rattle.cfdp_entity.proofs.Entries.{seen_by_entry, seen_nowhere, ready_by_entry}
use Rattle.cfdp_entity.proofs.Found.{data-found}
use Rattle.cfdp_entity.proofs.Spelled.{entry-spelled}
use Rattle.cfdp_entity.proofs.table.Table.due_at.Goals as goal

pub returns-in-Some-clause-len : goal.returns-in-Some-clause-len
returns-in-Some-clause-len g c =
    c.due.ensures.len (g.I.Inbox.staged c.self.inside.desk.inbox) (g.O.Outbox.files c.self.inside.desk.outbox) _
    (ready_by_entry (g.I.Inbox.staged c.self.inside.desk.inbox) (g.O.Outbox.files c.self.inside.desk.outbox) _ c.self.inside.records.entries c.args.place _ c.in-Some.held.now
    c.in-Some.ensures.entry c.self.invariant.ready)
    ∙ ap (len_due (g.O.Outbox.files c.self.inside.desk.outbox)) (sym (seen_by_entry (g.I.Inbox.staged c.self.inside.desk.inbox) c.self.inside.records.entries c.args.place _ c.in-Some.held.now
    c.in-Some.ensures.entry))
    ∙ ap (λ (v : Roomy). len_at c.args.place v.state) c.self.view_is

pub returns-in-Some-clause-spelled : goal.returns-in-Some-clause-spelled
returns-in-Some-clause-spelled g c = λ sources. subst (λ (v : Roomy). EntryIsSpelled sources (slice_get v.state.records c.args.place)) c.self.view_is
    (entry-spelled (g.I.Inbox.staged c.self.inside.desk.inbox) sources c.self.inside.records.entries c.args.place _ c.in-Some.held.now c.in-Some.ensures.entry
    c.due.ensures.spelled)

pub returns-in-None-clause-spelled : goal.returns-in-None-clause-spelled
returns-in-None-clause-spelled g c = λ sources. subst (λ (v : Roomy). EntryIsSpelled sources (slice_get v.state.records c.args.place)) c.self.view_is
    (subst (EntryIsSpelled sources) (sym (seen_nowhere (g.I.Inbox.staged c.self.inside.desk.inbox) c.self.inside.records.entries c.args.place
    c.in-None.ensures.entry)) tt)

pub returns-in-None-clause-len : goal.returns-in-None-clause-len
returns-in-None-clause-len g c = ap (len_due (g.O.Outbox.files c.self.inside.desk.outbox)) (sym (seen_nowhere (g.I.Inbox.staged c.self.inside.desk.inbox) c.self.inside.records.entries
    c.args.place c.in-None.ensures.entry))
    ∙ ap (λ (v : Roomy). len_at c.args.place v.state) c.self.view_is

pub returns-in-Some-clause-due : goal.returns-in-Some-clause-due
returns-in-Some-clause-due g c = c.due.ensures.due (g.I.Inbox.staged c.self.inside.desk.inbox _) ∙ ap found_in
    (sym (seen_by_entry (g.I.Inbox.staged c.self.inside.desk.inbox) c.self.inside.records.entries c.args.place _ c.in-Some.held.now c.in-Some.ensures.entry))
    ∙ ap (λ (v : Roomy). found_at c.args.place v.state) c.self.view_is

pub returns-in-None-clause-due : goal.returns-in-None-clause-due
returns-in-None-clause-due g c = ap found_in (sym (seen_nowhere (g.I.Inbox.staged c.self.inside.desk.inbox) c.self.inside.records.entries c.args.place c.in-None.ensures.entry)) ∙ ap
    (λ (v : Roomy). found_at c.args.place v.state) c.self.view_is

pub returns-in-Some-clause-data : goal.returns-in-Some-clause-data
returns-in-Some-clause-data g c = ap is_data (returns-in-Some-clause-due g c) ∙ data-found c.args.place c.args.self.now.state

pub returns-in-None-clause-data : goal.returns-in-None-clause-data
returns-in-None-clause-data g c = ap is_data (returns-in-None-clause-due g c) ∙ data-found c.args.place c.args.self.now.state
