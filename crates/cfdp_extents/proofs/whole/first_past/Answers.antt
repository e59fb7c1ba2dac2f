use Rattle.std.proofs.Common.{sym, ◌∙◌}
use Rattle.cfdp_extents.specs.Ranges.{turned}
use Rattle.cfdp_extents.proofs.Last.{found-past, none-past, other-past, missed-past, missing-past}
use Rattle.cfdp_extents.proofs.whole.first_past.Goals as goal
use Rattle.cfdp_extents.proofs.whole.first_past.Goals.{in_default-via-in-Some+else-range-offset, in_default-via-in_default}

pub returns-then-offset-range : goal.returns-then-offset-range
returns-then-offset-range c = found-past c.args.offset (turned c.args.ranges.now.entries) c.args.last c.in-Some.range c.requires c.in-Some.is c.if-range-offset.true c.if-offset-range.true

pub returns-else-offset-range : goal.returns-else-offset-range
returns-else-offset-range c = none-past c.args.offset (turned c.args.ranges.now.entries) c.args.last c.in-Some.range c.requires c.in-Some.is c.if-range-offset.true c.if-offset-range.false

pub returns-in-Some-range_behind : goal.returns-in-Some-range_behind
returns-in-Some-range_behind c = other-past c.args.offset (turned c.args.ranges.now.entries) c.args.last c.in-Some-range_behind.range (sym c.range_behind.ensures ∙ c.in-Some-range_behind.is)

pub returns-in-None : goal.returns-in-None
returns-in-None c = elim c.in_default.branch [
  | in_default-via-in-Some+else-range-offset w ↦ w.last-is ∙ sym w.in-Some.is
      ∙ missed-past c.args.offset (turned c.args.ranges.now.entries) c.args.last w.in-Some.range c.requires w.in-Some.is w.if-range-offset.false (sym c.range_behind.ensures ∙ c.in-None.is)
  | in_default-via-in_default w ↦ w.last-is ∙ missing-past c.args.offset (turned c.args.ranges.now.entries) c.args.last w.in_default.is (sym c.range_behind.ensures ∙ c.in-None.is)
]
