use Rattle.std.proofs.Common.{ap}
use Rattle.cfdp_extents.specs.Offsets.{union_of}
use Rattle.cfdp_extents.specs.Ranges.{turned}
use Rattle.cfdp_extents.proofs.extents.Extents.new.Goals as goal

pub returns : goal.returns
unfolding union_of
returns c = ap (λ es. union_of (turned es)) c.new.ensures.empty
