use Rattle.std.proofs.Common.{◌∙◌, ap}
use Rattle.cfdp_extents.specs.Ranges.{turned, with_last}
use Rattle.cfdp_extents.specs.Count.{gap_count}
use Rattle.cfdp_extents.proofs.Counted.{among-is}
use Rattle.cfdp_extents.proofs.extents.Extents.gap_count.Goals as goal

pub returns : goal.returns
returns c = c.count_gaps.ensures ∙ among-is (with_last (turned c.self.inside.ranges.entries) c.self.inside.last) c.self.invariant.0 ∙ ap gap_count c.self.view_is
