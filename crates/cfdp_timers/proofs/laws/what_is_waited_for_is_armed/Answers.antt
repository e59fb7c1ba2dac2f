use Rattle.cfdp_timers.proofs.Waited.{get-waited}
use Rattle.cfdp_timers.proofs.laws.what_is_waited_for_is_armed.Goals as goal

pub returns : goal.returns
returns c = get-waited
