use Rattle.std.specs.Cmp.{nat_cmp_total}
use Rattle.std.specs.FinSet.{contains-union, contains-difference}
use Rattle.cfdp_extents.proofs.Members.{contains-range, contains-more, same_offsets}
use Rattle.cfdp_extents.proofs.laws.a_set_is_what_it_holds.Goals as goal

pub returns : goal.returns
returns c = record {
  range = contains-range;
  union = contains-union nat_cmp_total;
  difference = contains-difference nat_cmp_total;
  ranges = contains-more;
  same = same_offsets;
}
