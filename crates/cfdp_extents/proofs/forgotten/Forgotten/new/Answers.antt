use Rattle.std.proofs.Common.{ap, ◌∙◌}
use Rattle.cfdp_extents.specs.Forgotten.{ids_of}
use Rattle.cfdp_extents.proofs.Sets.{ids-none}
use Rattle.cfdp_extents.proofs.forgotten.Forgotten.new.Goals as goal

pub returns : goal.returns
returns c = ap ids_of c.new.ensures.empty ∙ ids-none
