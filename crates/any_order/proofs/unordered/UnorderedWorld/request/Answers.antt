use Rattle.any_order.proofs.Happening.{runs_on}
use Rattle.any_order.proofs.unordered.UnorderedWorld.request.Goals as goal

pub invariant_of-self : goal.invariant_of-self
invariant_of-self g c = runs_on _ _ c.self.inside.ends c.request.new.self c.request.ensures.happened c.self.invariant
