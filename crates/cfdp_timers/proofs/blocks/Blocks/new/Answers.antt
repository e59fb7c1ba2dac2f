use Rattle.std.proofs.Common.{sym, subst}
use Rattle.cfdp_timers.specs.Entries.{AreFirsts}
use Rattle.cfdp_timers.proofs.blocks.Blocks.new.Goals as goal

pub invariant_of-result : goal.invariant_of-result
unfolding AreFirsts
invariant_of-result c = subst (λ fs. AreFirsts 64 c.new.result.items fs) (sym c.new-2.ensures.items) c.new.ensures.items
