use Rattle.cfdp_log.proofs.Losing.{begins_more}
use Rattle.cfdp_log.proofs.lossy_log.LossyLog.begins.Goals as goal

pub invariant_of-self : goal.invariant_of-self
invariant_of-self c = begins_more _ _ _ _ _ _ _ c.args.octets.now c.self.invariant c.put_all.ensures c.requires c.keeps-self-inside.ensures
