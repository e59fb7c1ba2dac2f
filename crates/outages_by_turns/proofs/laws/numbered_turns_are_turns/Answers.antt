use Rattle.outages_by_turns.proofs.Numbered.{are-turns}
use Rattle.outages_by_turns.proofs.laws.numbered_turns_are_turns.Goals as goal

pub returns : goal.returns
returns g c = are-turns g.W.Wire.steps
