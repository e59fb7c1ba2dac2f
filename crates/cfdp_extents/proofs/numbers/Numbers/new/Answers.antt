use Rattle.std.proofs.Common.{true≢false, sym, ap, ◌∙◌}
use Rattle.std.specs.FinSet as set
use Rattle.std.specs.Ordering.{nat_cmp}
use Rattle.cfdp_extents.specs.Forgotten.{NumberSet}
use Rattle.cfdp_extents.proofs.numbers.Numbers.new.Goals as goal

pub invariant_of-result : goal.invariant_of-result
invariant_of-result c = λ k held. absurd (true≢false (sym held ∙ ap (λ (s : NumberSet). set.contains s k) c.new.ensures ∙ set.contains-empty nat_cmp k))
