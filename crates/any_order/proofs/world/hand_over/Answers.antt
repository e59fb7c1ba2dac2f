use Rattle.std.proofs.Common.{◌≡◌, ℕ, true, IfSome, subst}
use Rattle.link_stack.specs.AnyOrder.{IsWithinCounts}
use Rattle.any_order.specs.Kept.{last_at, with_last}
use Rattle.any_order.proofs.Coming.{makes_copy}
use Rattle.any_order.proofs.world.hand_over.Goals as goal

pub returns-clause-makes : goal.returns-clause-makes
returns-clause-makes g c d puts =
    let near = subst (λ (n : ℕ). IfSome (last_at c.args.which.lane c.args.to.now) (λ last. IsWithinCounts true last n)) c.in-Some-number.ensures (c.is_near.ensures.near c.if-not-is_near.false) in
    let same = subst (λ (n : ℕ). c.take.new.self ≡ with_last c.args.which.lane n (record c.args.to.now { station = c.take.new.self.station })) c.in-Some-number.ensures c.take.ensures.only in
    makes_copy d c.args.which.life c.args.which.lane c.args.which.place c.in-Some.life.now c.in-Some-frame.frame.now c.args.to.now c.args.from.now c.take.new.self puts c.in-Some.ensures
    c.in-Some-frame.ensures.0 c.in-Some-frame.ensures.1 near same c.take.ensures.taken
