use Rattle.std.proofs.Common.{ap, sym, ◌∙◌, length, subst}
use Rattle.std.specs.List.{IsDistinct}
use Rattle.std.specs.Map.{keys_of}
use Rattle.cfdp_header.specs.Ids.{same_id}
use Rattle.cfdp_entity.specs.Roomy.{Roomy}
use Rattle.cfdp_entity.proofs.Places.{length_entries, keys-seen}
use Rattle.cfdp_entity.proofs.table.Table.len.Goals as goal

pub returns-clause-len : goal.returns-clause-len
returns-clause-len g c = c.len.ensures.len ∙ sym (length_entries (g.I.Inbox.staged c.self.inside.desk.inbox) c.self.inside.records.entries) ∙ ap length
    (ap (λ (v : Roomy). v.state.records) c.self.view_is)

pub returns-clause-distinct : goal.returns-clause-distinct
returns-clause-distinct g c =
    subst (λ l. IsDistinct same_id (keys_of l)) (ap (λ (v : Roomy). v.state.records) c.self.view_is)
    (subst (IsDistinct same_id) (sym (keys-seen (g.I.Inbox.staged c.self.inside.desk.inbox) c.self.inside.records.entries)) c.self.invariant.distinct)
