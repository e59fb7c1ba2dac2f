use Rattle.std.proofs.Common.{ap, sym, ◌∙◌, Some, slice_get}
use Rattle.cfdp_entity.specs.Roomy.{Roomy}
use Rattle.cfdp_entity.specs.Table.{progress_in}
use Rattle.cfdp_entity.proofs.Entries.{seen_by_entry, seen_nowhere}
use Rattle.cfdp_entity.proofs.table.Table.progress_at.Goals as goal

pub returns-in-Some : goal.returns-in-Some
returns-in-Some g c = ap Some (c.progress.ensures (g.I.Inbox.staged c.self.inside.desk.inbox _)) ∙ ap progress_in
    (sym (seen_by_entry (g.I.Inbox.staged c.self.inside.desk.inbox) c.self.inside.records.entries c.args.place _ c.in-Some.held.now c.in-Some.ensures.entry))
    ∙ ap (λ (v : Roomy). progress_in (slice_get v.state.records c.args.place)) c.self.view_is

pub returns-in-None : goal.returns-in-None
returns-in-None g c = ap progress_in (sym (seen_nowhere (g.I.Inbox.staged c.self.inside.desk.inbox) c.self.inside.records.entries c.args.place c.in-None.ensures.entry)) ∙ ap
    (λ (v : Roomy). progress_in (slice_get v.state.records c.args.place)) c.self.view_is
