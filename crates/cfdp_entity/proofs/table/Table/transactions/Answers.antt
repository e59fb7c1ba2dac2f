use Rattle.std.proofs.Common.{ap, map, ◌∙◌}
use Rattle.cfdp_entity.specs.Roomy.{Roomy}
use Rattle.cfdp_entity.specs.Walking.{phases_of, record_told}
use Rattle.cfdp_entity.proofs.Walked.{phases-seen}
use Rattle.cfdp_entity.proofs.table.Table.transactions.Goals as goal

pub returns : goal.returns
returns g c = c.over.ensures ∙ ap (map record_told) c.iter.ensures.rest
    ∙ phases-seen (g.I.Inbox.staged c.self.inside.desk.inbox) c.self.inside.records.entries ∙ ap (λ (v : Roomy). phases_of v.state) c.self.view_is
