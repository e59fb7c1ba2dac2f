use Rattle.any_order.proofs.Onward.{world_goes_on}
use Rattle.any_order.proofs.laws.a_resume_goes_on.Goals as goal

pub returns : goal.returns
returns c = world_goes_on
