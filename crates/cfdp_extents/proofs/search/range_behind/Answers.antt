use Rattle.std.proofs.Common.{sym, ◌∙◌}
use Rattle.cfdp_extents.proofs.Kept.{behind_some, behind_none}
use Rattle.cfdp_extents.proofs.search.range_behind.Goals as goal

pub returns-in-Some : goal.returns-in-Some
returns-in-Some c = behind_some c.args.offset c.args.ranges.now.entries c.next.new.self (c.in-Some.end.now, c.in-Some.start.now) (sym (c.range.ensures.between tt) ∙ c.in-Some.ensures.steps)

pub returns-in-None : goal.returns-in-None
returns-in-None c = behind_none c.args.offset c.args.ranges.now.entries (sym (c.range.ensures.between tt) ∙ c.in-None.ensures.steps.0)
