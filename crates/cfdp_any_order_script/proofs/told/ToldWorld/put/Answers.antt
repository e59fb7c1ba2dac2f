use Rattle.cfdp_any_order_script.proofs.Noted.{all_on, put_no}
use Rattle.cfdp_any_order_script.proofs.told.ToldWorld.put.Goals as goal

pub invariant_of-self : goal.invariant_of-self
invariant_of-self c = all_on c.self.inside.files.now _ _ _ _ _ _ _ _ (c.show_onward.ensures _ _ _ c.put.ensures.happened (put_no _ _ _)) c.self.invariant

pub invariant_of-self-in-One : goal.invariant_of-self-in-One
invariant_of-self-in-One c = all_on c.self.inside.files.now _ _ _ _ _ _ _ _ (c.show_onward.ensures _ _ _ c.put.ensures.happened (put_no _ _ _)) c.self.invariant

pub invariant_of-self-in-Two : goal.invariant_of-self-in-Two
invariant_of-self-in-Two c = all_on c.self.inside.files.now _ _ _ _ _ _ _ _ (c.show_onward.ensures _ _ _ c.put.ensures.happened (put_no _ _ _)) c.self.invariant
