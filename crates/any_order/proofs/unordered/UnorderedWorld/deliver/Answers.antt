use Rattle.any_order.proofs.Happening.{runs_on}
use Rattle.any_order.proofs.unordered.UnorderedWorld.deliver.Goals as goal

pub invariant_of-self : goal.invariant_of-self
invariant_of-self g c = runs_on _ _ c.self.inside.ends c.deliver.new.self c.deliver.ensures.happened c.self.invariant
