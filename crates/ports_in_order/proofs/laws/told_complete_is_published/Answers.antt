use Rattle.ports_in_order.proofs.Delivered.{published}
use Rattle.ports_in_order.proofs.laws.told_complete_is_published.Goals as goal

pub returns : goal.returns
returns c = published
