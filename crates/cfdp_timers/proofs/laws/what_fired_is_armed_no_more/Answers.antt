use Rattle.cfdp_timers.proofs.CallerLemmas.{deadline-left}
use Rattle.cfdp_timers.proofs.laws.what_fired_is_armed_no_more.Goals as goal

pub returns : goal.returns
returns c = deadline-left
