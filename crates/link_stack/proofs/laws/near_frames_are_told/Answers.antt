use Rattle.std.proofs.Common.{arith}
use Rattle.link_stack.proofs.Numbers.{numbers_tell, window_near, beyond_next, before_next}
use Rattle.link_stack.proofs.laws.near_frames_are_told.Goals as goal

pub returns-clause-tell : goal.returns-clause-tell
returns-clause-tell c = numbers_tell

pub returns-clause-window : goal.returns-clause-window
returns-clause-window c late ahead first ns sum few some h = window_near late ahead first first ns sum few (omega arith) (omega arith) h

pub returns-clause-beyond : goal.returns-clause-beyond
returns-clause-beyond c = beyond_next

pub returns-clause-before : goal.returns-clause-before
returns-clause-before c = before_next
