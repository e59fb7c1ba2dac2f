use Rattle.std.proofs.Common.{◌≡◌, ◌<◌, sym, ap, subst, ◌∙◌}
use Rattle.cfdp_entity.specs.Entity.{Counted, next_of}
use Rattle.cfdp_sender.specs.Back.{sent_from}
use Rattle.cfdp_entity.proofs.Restored.{free-answered, own-number}
use Rattle.cfdp_entity.proofs.entity.Entity.restore_sender.Goals as goal

pub invariant_of-self : goal.invariant_of-self
invariant_of-self g c =
    let id = c.args.kept.transfer.addressing.id in
    let next : next_of c.self.inside.next ≡ c.args.self.now.state.next = ap (λ (v : Counted). v.state.next) c.self.view_is ∙ ap (λ (v : Counted). v.state.next) c.read_front.ensures.counted in
    let low : id.number < next_of c.self.inside.next = subst (λ n. id.number < n) (sym next) (own-number c.args.kept.transfer.addressing c.args.self.now.state c.in_default.ensures.may.own) in (
      c.self.invariant.0,
      c.self.invariant.1,
      free-answered c.restore_sender.result c.self.inside.config.entity (next_of c.self.inside.next) c.self.inside.table c.restore_sender.new.self id
          (sent_from c.args.sent c.in-Ok.sums c.args.kept) c.restore_sender.ensures.restored c.restore_sender.ensures.err low c.self.invariant.2,
      c.self.invariant.3,
    )
