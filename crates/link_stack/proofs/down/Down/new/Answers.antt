use Rattle.aos_frame.specs.declared.config.Lane.TheVariants.{Directives, Data}
use Rattle.link_stack.proofs.down.Down.new.Goals as goal

pub returns-clause-stream : goal.returns-clause-stream
returns-clause-stream c Directives = c.in_ok-new.ensures.stream
returns-clause-stream c Data = c.in_ok-new-2.ensures.stream
