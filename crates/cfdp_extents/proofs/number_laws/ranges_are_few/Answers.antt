use Rattle.cfdp_extents.proofs.Few.{ranges-few}
use Rattle.cfdp_extents.proofs.number_laws.ranges_are_few.Goals as goal

pub returns : goal.returns
returns c = λ held first above. ranges-few held first above
