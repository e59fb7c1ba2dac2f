use Rattle.secured_link.proofs.Turns.{in_order}
use Rattle.secured_link.proofs.laws.secured_wires_keep_the_order.Goals as goal

pub returns : goal.returns
returns g c = λ id count first last turns begin none few. in_order g.W.Wire.steps g.K.Keeper.calls id count first last turns begin none few
