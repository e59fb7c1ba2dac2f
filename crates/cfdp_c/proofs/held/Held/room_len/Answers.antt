use Rattle.aos_frame.specs.declared.config.Lane.TheVariants.{Directives}
use Rattle.cfdp_c.proofs.held.Held.room_len.Goals as goal

pub returns : goal.returns
returns c = c.frame_len.ensures Directives
