use Rattle.promises.proofs.Ending.{ends_early}
use Rattle.promises.proofs.in_service.a_turn_in_part_ends_early.Goals as goal

pub returns : goal.returns
returns g c = λ link files theirs old heard wire last turn came read. ends_early g.W.Wire.steps link files theirs old heard wire last turn came turn.ends read
