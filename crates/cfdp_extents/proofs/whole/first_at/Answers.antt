use Rattle.std.proofs.Common.{sym, ◌∙◌}
use Rattle.cfdp_extents.specs.Ranges.{turned}
use Rattle.cfdp_extents.proofs.Last.{found-from, none-from, other-from, missed-from, missing-from}
use Rattle.cfdp_extents.proofs.whole.first_at.Goals as goal
use Rattle.cfdp_extents.proofs.whole.first_at.Goals.{in_default-via-in-Some+else-range-offset, in_default-via-in_default}

pub returns-then-offset-range : goal.returns-then-offset-range
returns-then-offset-range c = found-from c.args.offset (turned c.args.ranges.now.entries) c.args.last c.in-Some.range c.requires c.in-Some.is c.if-range-offset.true c.if-offset-range.true

pub returns-else-offset-range : goal.returns-else-offset-range
returns-else-offset-range c = none-from c.args.offset (turned c.args.ranges.now.entries) c.args.last c.in-Some.range c.requires c.in-Some.is c.if-range-offset.true c.if-offset-range.false

pub returns-in-Some-range_from : goal.returns-in-Some-range_from
returns-in-Some-range_from c = other-from c.args.offset (turned c.args.ranges.now.entries) c.args.last c.in-Some-range_from.range (sym c.range_from.ensures ∙ c.in-Some-range_from.is)

pub returns-in-None : goal.returns-in-None
returns-in-None c = elim c.in_default.branch [
  | in_default-via-in-Some+else-range-offset w ↦ w.last-is ∙ sym w.in-Some.is
      ∙ missed-from c.args.offset (turned c.args.ranges.now.entries) c.args.last w.in-Some.range c.requires w.in-Some.is w.if-range-offset.false (sym c.range_from.ensures ∙ c.in-None.is)
  | in_default-via-in_default w ↦ w.last-is ∙ missing-from c.args.offset (turned c.args.ranges.now.entries) c.args.last w.in_default.is (sym c.range_from.ensures ∙ c.in-None.is)
]
