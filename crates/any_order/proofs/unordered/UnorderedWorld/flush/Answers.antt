use Rattle.any_order.proofs.Happening.{runs_on}
use Rattle.any_order.proofs.unordered.UnorderedWorld.flush.Goals as goal

pub invariant_of-self : goal.invariant_of-self
invariant_of-self g c = runs_on _ _ c.self.inside.ends c.flush.new.self c.flush.ensures.happened.2 c.self.invariant
