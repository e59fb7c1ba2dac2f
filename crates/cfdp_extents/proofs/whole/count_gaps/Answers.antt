use Rattle.std.proofs.Common.{◌∙◌, sym, ap, ◌+◌}
use Rattle.cfdp_extents.proofs.Counted.{counted-zero, counted-later}
use Rattle.cfdp_extents.proofs.whole.count_gaps.Goals as goal

pub returns-then-start-eq0 : goal.returns-then-start-eq0
returns-then-start-eq0 c = c.len.ensures.len
    ∙ counted-zero c.args.ranges.now.entries c.args.last (c.in-Some.start, c.in-Some.field-0-1) c.requires.none (sym c.first_at.ensures ∙ c.in-Some.is) c.if-start-eq0.true

pub returns-else-start-eq0 : goal.returns-else-start-eq0
returns-else-start-eq0 c = ap (λ n. n + 1) c.len-else-start-eq0.ensures.len
    ∙ counted-later c.args.ranges.now.entries c.args.last (c.in-Some.start, c.in-Some.field-0-1) c.requires.none (sym c.first_at.ensures ∙ c.in-Some.is) c.if-start-eq0.false
