use Rattle.std.proofs.Common.{ap, map, ◌∙◌}
use Rattle.cfdp_entity.specs.Restoring.{all_kept, record_kept}
use Rattle.cfdp_entity.specs.Roomy.{Roomy}
use Rattle.cfdp_entity.proofs.Restored.{kept-seen}
use Rattle.cfdp_entity.proofs.table.Table.records.Goals as goal

pub returns : goal.returns
returns g c = ap (map record_kept) c.iter.ensures.rest
    ∙ kept-seen (g.I.Inbox.staged c.self.inside.desk.inbox) c.self.inside.records.entries ∙ ap (λ (v : Roomy). all_kept v.state) c.self.view_is
