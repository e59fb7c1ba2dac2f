use Rattle.std.proofs.Common.{rules, arith}
use Rattle.cfdp_dump.proofs.Runs.{items-behind, items-front}
use Rattle.cfdp_dump.proofs.dump.capture.write_capture.Goals as goal

pub loop-rest-init : goal.loop-rest-init
loop-rest-init g c = rw c.new-channels.ensures (items-front _ _ _ _)

pub loop-rest-preserved : goal.loop-rest-preserved
loop-rest-preserved g c =
    items-behind _ _ _ _ _ _ _ _ _ _ _ _ _ (search (rules, arith)) c.in_ok-item.ensures.taken c.loop-rest.invariant c.in_ok-write_item.ensures
