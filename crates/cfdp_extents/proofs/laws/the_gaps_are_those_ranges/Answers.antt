use Rattle.cfdp_extents.proofs.CallerLemmas.{gaps-are, gaps-only, gaps-inside}
use Rattle.cfdp_extents.proofs.laws.the_gaps_are_those_ranges.Goals as goal

pub returns : goal.returns
returns c = record { are = gaps-are; only = gaps-only; inside = gaps-inside }
