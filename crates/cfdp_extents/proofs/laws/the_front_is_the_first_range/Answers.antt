use Rattle.cfdp_extents.proofs.CallerLemmas.{front-is, front-only, front-none}
use Rattle.cfdp_extents.proofs.laws.the_front_is_the_first_range.Goals as goal

pub returns : goal.returns
returns c = record { is = front-is; only = front-only; none = front-none }
