use Rattle.mpdu.proofs.Parts.{part-contains}
use Rattle.mpdu.proofs.laws.a_part_has_no_more.Goals as goal

pub returns : goal.returns
returns c whole part x h k = part-contains part whole x h k
