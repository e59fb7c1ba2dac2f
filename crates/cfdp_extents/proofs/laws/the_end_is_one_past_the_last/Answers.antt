use Rattle.cfdp_extents.proofs.CallerLemmas.{end-all_before, end-last, end-only}
use Rattle.cfdp_extents.proofs.laws.the_end_is_one_past_the_last.Goals as goal

pub returns : goal.returns
returns c = record { all_before = end-all_before; last = end-last; only = end-only }
