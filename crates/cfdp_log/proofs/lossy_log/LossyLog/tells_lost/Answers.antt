use Rattle.std.proofs.Common.{◌≢◌, ◌∙◌, subst, sym}
use Rattle.cfdp_log.specs.Lossy.{SaysLost}
use Rattle.cfdp_log.proofs.Losing.{ok_holds, tells_lost}
use Rattle.cfdp_log.proofs.lossy_log.LossyLog.tells_lost.Goals as goal

pub invariant_of-self : goal.invariant_of-self
invariant_of-self c =
    let says = ok_holds c.make_lost.result _ (sym c.is_ok.ensures.value ∙ c.if-is_ok.true) c.make_lost.ensures in
    tells_lost _ c.self.inside.queue c.tell_lost.new.self _ _ c.make_lost.new.line.items c.self.invariant (rw c.as_slice.ensures.value at c.tell_lost.ensures)
    (subst (λ n. n ≢ 0) c.lost-lost.ensures c.if-lost-eq0.false)
    (subst (λ n. SaysLost n c.make_lost.new.line.items) c.lost-lost.ensures says)
