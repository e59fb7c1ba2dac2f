use Rattle.std.proofs.Common.{◌≢◌, refl, sym, ap, ◌∙◌}
use Rattle.cfdp_directives.specs.Pdu.Content.{view}
use Rattle.cfdp_entity.specs.Entity.{Counted, next_of}
use Rattle.cfdp_entity.proofs.PutNumbers.{free-opened}
use Rattle.cfdp_entity.proofs.entity.Entity.open.Goals as goal

pub invariant_of-self-2 : goal.invariant_of-self-2
invariant_of-self-2 g c =
    let other : c.args.addressing.id.source ≢ c.self.inside.config.entity =
    λ own. c.self.invariant.0.ids.apart (sym own ∙ c.requires.from_peer ∙ sym (ap (λ (v : Counted). v.state.config.peer) c.self.view_is)) in (
      c.self.invariant.0,
      c.self.invariant.1,
      free-opened c.self.inside.config.entity (next_of c.self.inside.next) c.self.inside.table.state c.self.inside.table.state c.open.new.self.state refl c.self.invariant.2
          c.in_ok-open.field-0.begun c.in_ok-open.field-0.stored c.args.addressing c.args.large (view c.args.pdu.now) c.in_ok-open.ensures.opened.state other,
      c.self.invariant.3,
    )
