use Rattle.std.proofs.Common.{ap, ◌∙◌}
use Rattle.cfdp_entity.specs.Roomy.{Roomy}
use Rattle.cfdp_entity.specs.Table.{place_of}
use Rattle.cfdp_entity.proofs.Places.{place-seen}
use Rattle.cfdp_entity.proofs.table.Table.place_of.Goals as goal

pub returns : goal.returns
returns g c = c.get_index_of.ensures.index ∙ place-seen (g.I.Inbox.staged c.self.inside.desk.inbox) c.self.inside.records.entries c.args.id
    ∙ ap (place_of c.args.id) (ap (λ (v : Roomy). v.state.records) c.self.view_is)
