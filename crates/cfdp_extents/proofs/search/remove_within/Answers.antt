use Rattle.std.proofs.Common.{◌<◌, ℕ, List, length, sym, ap, subst, ◌∙◌}
use Rattle.cfdp_extents.specs.Ranges.{turned, outside}
use Rattle.cfdp_extents.proofs.Kept.{outside_less, outside_none, outside_past, removed_less}
use Rattle.cfdp_extents.proofs.search.remove_within.Goals as goal

pub loop-range-smaller : goal.loop-range-smaller
loop-range-smaller c =
    subst (λ (es : List (ℕ × ℕ)). length es < length c.loop-range.ranges.entries) (sym c.remove.ensures.entries)
    (removed_less c.args.start c.loop-range.ranges.entries c.in-Some.range (sym c.range_from.ensures ∙ c.in-Some.is))

pub loop-range-preserved : goal.loop-range-preserved
loop-range-preserved c =
    ap (λ es. outside c.args.start c.args.end (turned es)) c.remove.ensures.entries
    ∙ outside_less c.args.start c.args.end c.loop-range.ranges.entries c.in-Some.range (sym c.range_from.ensures ∙ c.in-Some.is) c.if-range-end.false
    ∙ c.loop-range.invariant

pub returns-then-range-end : goal.returns-then-range-end
returns-then-range-end c =
    outside_past c.args.start c.args.end (turned c.loop-range.ranges.entries) c.in-Some.range (sym c.range_from.ensures ∙ c.in-Some.is) c.if-range-end.true
    ∙ c.loop-range.invariant

pub returns : goal.returns
returns c =
    outside_none c.args.start c.args.end (turned c.loop-range.ranges.entries) (sym c.range_from.ensures ∙ c.in_default.is)
    ∙ c.loop-range.invariant
