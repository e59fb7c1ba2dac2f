use Rattle.cfdp_log.proofs.Losing.{nothing_came}
use Rattle.cfdp_log.proofs.lossy_log.LossyLog.new.Goals as goal

pub invariant_of-result : goal.invariant_of-result
invariant_of-result c =
    nothing_came _ _ _ c.new-2.ensures c.in_ok-new.ensures.written c.in_ok-new.ensures.waits c.in_ok-new.ensures.lost c.in_ok-with_capacity.ensures.items
