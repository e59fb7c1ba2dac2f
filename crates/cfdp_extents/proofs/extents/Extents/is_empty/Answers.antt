use Rattle.std.proofs.Common.{◌∙◌, sym}
use Rattle.cfdp_extents.specs.Ranges.{turned, with_last}
use Rattle.cfdp_extents.proofs.Taken.{no-offsets, no_ranges}
use Rattle.cfdp_extents.proofs.Last.{no-last, none-last, none-by_test, test-by_none}
use Rattle.cfdp_extents.proofs.extents.Extents.is_empty.Goals as goal

pub returns : goal.returns
returns c = (
  λ t. sym c.self.view_is ∙ no-offsets (with_last (turned c.self.inside.ranges.entries) c.self.inside.last)
      (no-last c.self.inside.ranges.entries c.self.inside.last (none-by_test c.self.inside.last c.is_none.result c.is_none.ensures t) c.self.invariant.1),
  λ e. test-by_none c.self.inside.last c.is_none.result c.is_none.ensures
      (none-last (turned c.self.inside.ranges.entries) c.self.inside.last (no_ranges (with_last (turned c.self.inside.ranges.entries) c.self.inside.last) c.self.invariant.0 (c.self.view_is ∙ e))),
)
