use Rattle.std.proofs.Common.{ap, ◌∙◌}
use Rattle.cfdp_entity.specs.Looking.{sends_at}
use Rattle.cfdp_entity.specs.Roomy.{Roomy}
use Rattle.cfdp_entity.proofs.Looked.{whole-looked}
use Rattle.cfdp_entity.proofs.RemovedSources.{looks-removed}
use Rattle.cfdp_entity.proofs.table.Table+MemoryOutbox+I.drop_source.Goals as goal

pub invariant_of-self : goal.invariant_of-self
invariant_of-self g c =
    whole-looked c.args.name.now _ _ _ _ c.self.inside.records.entries c.self.inside.ready
    (λ place. ap (λ (v : Roomy). sends_at c.args.name.now place v.state) c.self.view_is ∙ c.requires place)
    (looks-removed c.args.name.now c.self.inside.desk.outbox c.remove.new.self c.remove.ensures.files) c.self.invariant
