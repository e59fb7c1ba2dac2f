use Rattle.link_stack.proofs.Numbers.{frame_grown, left_grown}
use Rattle.link_stack.proofs.laws.a_later_packet_leaves_deliveries.Goals as goal

pub returns-clause-frame : goal.returns-clause-frame
returns-clause-frame c = frame_grown

pub returns-clause-left : goal.returns-clause-left
returns-clause-left c = left_grown
