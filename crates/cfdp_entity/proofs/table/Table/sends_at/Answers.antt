use Rattle.std.proofs.Common.{ap, sym, ◌∙◌}
use Rattle.cfdp_entity.specs.Looking.{sends_at, sends_in}
use Rattle.cfdp_entity.specs.Roomy.{Roomy}
use Rattle.cfdp_entity.proofs.Entries.{seen_by_entry, seen_nowhere}
use Rattle.cfdp_entity.proofs.table.Table.sends_at.Goals as goal

pub returns-in-Some : goal.returns-in-Some
returns-in-Some g c = c.sends_file.ensures (g.I.Inbox.staged c.self.inside.desk.inbox _) ∙ ap (sends_in c.args.name.now)
    (sym (seen_by_entry (g.I.Inbox.staged c.self.inside.desk.inbox) c.self.inside.records.entries c.args.place _ c.in-Some.held.now c.in-Some.ensures.entry))
    ∙ ap (λ (v : Roomy). sends_at c.args.name.now c.args.place v.state) c.self.view_is

pub returns-in-None : goal.returns-in-None
returns-in-None g c = ap (sends_in c.args.name.now) (sym (seen_nowhere (g.I.Inbox.staged c.self.inside.desk.inbox) c.self.inside.records.entries c.args.place c.in-None.ensures.entry)) ∙ ap
    (λ (v : Roomy). sends_at c.args.name.now c.args.place v.state) c.self.view_is
