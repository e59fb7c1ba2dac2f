use Rattle.link_stack.proofs.AnyOrder.{takes_any}
use Rattle.link_stack.proofs.AnyLanes.{takes_stray, first_left, gives_sent, gives_none}
use Rattle.link_stack.proofs.laws.a_frame_gives_what_was_sent.Goals as goal

pub returns-clause-first : goal.returns-clause-first
returns-clause-first c = first_left

pub returns-clause-frame : goal.returns-clause-frame
returns-clause-frame c = gives_sent

pub returns-clause-stray : goal.returns-clause-stray
returns-clause-stray c = gives_none

pub returns-clause-lane : goal.returns-clause-lane
returns-clause-lane c = takes_any

pub returns-clause-lane_stray : goal.returns-clause-lane_stray
returns-clause-lane_stray c = takes_stray
