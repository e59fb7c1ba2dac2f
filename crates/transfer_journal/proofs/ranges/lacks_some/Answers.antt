use Rattle.std.proofs.Common.{sym, ◌∙◌}
use Rattle.transfer_journal.proofs.Held.{lacks, lacks-none, still-noted}
use Rattle.transfer_journal.proofs.ranges.lacks_some.Goals as goal

pub returns-then-not-is_noted : goal.returns-then-not-is_noted
returns-then-not-is_noted c =
    lacks c.args.held.now c.args.noted.now _ _ _ c.loop-range.invariant c.in-Some.ensures.steps (sym c.is_noted.ensures ∙ c.if-not-is_noted.true)

pub loop-range-preserved : goal.loop-range-preserved
loop-range-preserved c =
    c.loop-range.invariant ∙ still-noted c.args.noted.now _ _ _ c.in-Some.ensures.steps (sym c.is_noted.ensures ∙ c.if-not-is_noted.false)

pub returns : goal.returns
returns c = lacks-none c.args.held.now c.args.noted.now _ c.loop-range.invariant c.in-None.ensures.steps.0
