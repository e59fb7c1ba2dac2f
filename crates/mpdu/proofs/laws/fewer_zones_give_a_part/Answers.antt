use Rattle.mpdu.proofs.Fewer.{survivors-busy, survivors-part, next_completes}
use Rattle.mpdu.proofs.laws.fewer_zones_give_a_part.Goals as goal

pub returns-clause-sent : goal.returns-clause-sent
returns-clause-sent c z marks ps = survivors-busy z marks 0 ps

pub returns-clause-part : goal.returns-clause-part
returns-clause-part c z few marks ps among = survivors-part z few marks 0 ps among

pub returns-clause-next : goal.returns-clause-next
returns-clause-next c = next_completes
