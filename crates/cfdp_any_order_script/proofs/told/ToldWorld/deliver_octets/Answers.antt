use Rattle.cfdp_any_order_script.proofs.Noted.{all_on, octets_no}
use Rattle.cfdp_any_order_script.proofs.told.ToldWorld.deliver_octets.Goals as goal

pub invariant_of-self : goal.invariant_of-self
invariant_of-self c = all_on c.self.inside.files.now _ _ _ _ _ _ _ _ (c.show_onward.ensures _ _ _ c.deliver_octets.ensures.happened (octets_no _ _)) c.self.invariant
