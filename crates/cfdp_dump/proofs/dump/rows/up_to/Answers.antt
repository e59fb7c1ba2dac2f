use Rattle.std.proofs.Common.{◌∙◌, sym, arith, rules}
use Rattle.cfdp_dump.proofs.Gaps.{up_to-end, up_to-found, up_to-more}
use Rattle.cfdp_dump.proofs.dump.rows.up_to.Goals as goal

pub returns-then-starts_with : goal.returns-then-starts_with
returns-then-starts_with c =
    up_to-found c.args.gap.now c.args.text.now c.loop-place.place c.loop-place.invariant (sym c.starts_with.ensures.value ∙ c.if-starts_with.true)

pub loop-place-preserved : goal.loop-place-preserved
loop-place-preserved c =
    up_to-more c.args.gap.now c.args.text.now c.loop-place.place c.loop-place-test.true c.loop-place.invariant (sym c.starts_with.ensures.value ∙ c.if-starts_with.false)

pub returns : goal.returns
returns c =
    up_to-end c.args.gap.now c.args.text.now c.loop-place.place (search (rules, arith)) c.loop-place.invariant
