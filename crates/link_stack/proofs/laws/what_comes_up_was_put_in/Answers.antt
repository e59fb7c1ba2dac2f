use Rattle.link_stack.proofs.EndToEnd.{all_were_put}
use Rattle.link_stack.proofs.laws.what_comes_up_was_put_in.Goals as goal

pub returns : goal.returns
returns c = all_were_put
