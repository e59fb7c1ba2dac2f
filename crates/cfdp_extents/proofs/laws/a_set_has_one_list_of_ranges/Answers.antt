use Rattle.cfdp_extents.proofs.CallerLemmas.{ranges-are, ranges-only, ranges_below-are}
use Rattle.cfdp_extents.proofs.laws.a_set_has_one_list_of_ranges.Goals as goal

pub returns : goal.returns
returns c = record {
  are = ranges-are;
  only = ranges-only;
  below = λ held limit all. ranges-only held _ (ranges_below-are held limit all);
}
