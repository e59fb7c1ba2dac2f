use Rattle.std.proofs.Common.{ap, ◌∙◌}
use Rattle.cfdp_extents.specs.Forgotten.{ids_of}
use Rattle.cfdp_extents.proofs.forgotten.Forgotten.sources.Goals as goal

pub returns : goal.returns
returns c = ap ids_of c.iter.ensures.rest ∙ c.self.view_is
