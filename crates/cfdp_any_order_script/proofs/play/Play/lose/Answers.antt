use Rattle.std.proofs.Common.{refl}
use Rattle.cfdp_any_order_script.proofs.Playing.{at_one, at_two}
use Rattle.cfdp_any_order_script.proofs.play.Play.lose.Goals as goal

pub returns-in-One : goal.returns-in-One
returns-in-One c = at_one _ _ _ _ _ c.in-One.is c.self.view_is (c.lose.ensures c.self.inside.world) refl

pub returns-in-Two : goal.returns-in-Two
returns-in-Two c = at_two _ _ _ _ _ c.in-Two.is c.self.view_is (c.lose-in-Two.ensures c.self.inside.world) refl
