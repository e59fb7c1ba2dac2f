use Rattle.cfdp_any_order_script.proofs.Noted.{all_on, flush_no}
use Rattle.cfdp_any_order_script.proofs.told.ToldWorld.flush.Goals as goal

pub invariant_of-self : goal.invariant_of-self
invariant_of-self c = all_on c.self.inside.files.now _ _ _ _ _ _ _ _ (c.show_onward.ensures _ _ _ c.flush.ensures.happened.2 (flush_no _ c.flush.ensures.happened.1)) c.self.invariant
