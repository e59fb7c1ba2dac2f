use Rattle.std.proofs.Common.{None, ap, sym, subst, ◌≡◌, ◌∙◌}
use Rattle.std.specs.FinMap as map
use Rattle.cfdp_entity.specs.Roomy.{Roomy}
use Rattle.cfdp_entity.proofs.Added.{whole-added}
use Rattle.cfdp_entity.proofs.table.Table+MemoryOutbox+I.keep_source.Goals as goal

pub invariant_of-self : goal.invariant_of-self
invariant_of-self g c =
    let free = ap (λ (v : Roomy). map.get v.state.sources c.args.name.now) c.self.view_is ∙ c.requires.free in
    let named = c.in_ok-name.ensures.items in
    whole-added c.add.result _ c.add.new.self _ c.in_ok-name.name.items c.in_ok-octets.octets.items c.self.inside.records.entries
    c.self.inside.ready
    (subst (λ n. map.get c.self.inside.desk.outbox n ≡ None) (sym named) free) c.add.ensures.ok c.add.ensures.err c.self.invariant
