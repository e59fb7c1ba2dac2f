use Rattle.secured_link.proofs.Serving.{part_ends}
use Rattle.secured_link.proofs.laws.a_secured_turn_in_part_ends_early.Goals as goal

pub returns : goal.returns
returns g c = λ files theirs old heard last wire rests turn accepts reads. part_ends g.W.Wire.steps g.K.Keeper.calls files theirs old heard last wire rests turn accepts reads
