use Rattle.cfdp_log.proofs.Losing.{ends_line}
use Rattle.cfdp_log.proofs.lossy_log.LossyLog.ends_line.Goals as goal

pub invariant_of-self : goal.invariant_of-self
invariant_of-self c =
    ends_line _ _ _ c.take.new.self _ _ _ _ _ c.self.invariant c.put.ensures c.keeps-is_whole.ensures (rw c.as_slice.ensures.value at c.take.ensures) c.clear.ensures.items
