use Rattle.cfdp_any_order_script.proofs.Noted.{all_on, tick_no}
use Rattle.cfdp_any_order_script.proofs.told.ToldWorld.tick.Goals as goal

pub invariant_of-self : goal.invariant_of-self
invariant_of-self c = all_on c.self.inside.files.now _ _ _ _ _ _ _ _ (c.show_onward.ensures _ _ _ c.tick.ensures.happened (tick_no _ _)) c.self.invariant
