use Rattle.std.proofs.Common.{sym, ◌∙◌}
use Rattle.cfdp_extents.specs.Ranges.{turned}
use Rattle.cfdp_extents.proofs.Kept.{low-some, low-none}
use Rattle.cfdp_extents.proofs.search.lowest.Goals as goal

pub returns-in-Some : goal.returns-in-Some
returns-in-Some c = c.min.ensures ∙ low-some c.args.start (turned c.args.ranges.now.entries) c.in-Some.range (sym c.range_from.ensures ∙ c.in-Some.is)

pub returns-in-None : goal.returns-in-None
returns-in-None c = low-none c.args.start (turned c.args.ranges.now.entries) (sym c.range_from.ensures ∙ c.in-None.is)
