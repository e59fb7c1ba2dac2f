use Rattle.link_stack.proofs.AnyLanes.{all_were_sent}
use Rattle.link_stack.proofs.laws.what_comes_up_was_sent.Goals as goal

pub returns : goal.returns
returns c = all_were_sent
