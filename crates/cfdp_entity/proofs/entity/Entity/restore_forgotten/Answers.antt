use Rattle.std.proofs.Common.{◌≡◌, ◌≤◌, ℕ, sym, ap, subst, ◌∙◌}
use Rattle.cfdp_entity.specs.Entity.{Counted, next_of}
use Rattle.cfdp_entity.proofs.Forgot.{unforgotten-joined}
use Rattle.cfdp_entity.proofs.entity.Entity.restore_forgotten.Goals as goal

pub invariant_of-self : goal.invariant_of-self
invariant_of-self g c =
    let entity : c.self.inside.config.entity ≡ c.args.self.now.state.config.entity = ap (λ (v : Counted). v.state.config.entity) c.self.view_is in
    let next : next_of c.self.inside.next ≡ c.args.self.now.state.next = ap (λ (v : Counted). v.state.next) c.self.view_is in (
      c.self.invariant.0,
      c.self.invariant.1,
      c.self.invariant.2,
      unforgotten-joined c.insert_range.result c.self.inside.config.entity (next_of c.self.inside.next) c.args.source c.args.start c.args.end c.self.inside.forgotten c.insert_range.new.self
          c.insert_range.ensures.ok c.insert_range.ensures.err (λ own. subst (λ (n : ℕ). c.args.end ≤ n) (sym next) (c.is_unused.ensures.used c.if-is_unused.false (own ∙ entity))) c.self.invariant.3,
    )
