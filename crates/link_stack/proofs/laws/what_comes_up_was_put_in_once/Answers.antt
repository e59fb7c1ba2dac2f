use Rattle.link_stack.proofs.Lives.{all_were_put_in}
use Rattle.link_stack.proofs.laws.what_comes_up_was_put_in_once.Goals as goal

pub returns : goal.returns
returns c = all_were_put_in
