use Rattle.std.proofs.Common.{◌≡◌, ap, get_or, arith, take_all, ◌∙◌, sum_by}
use Rattle.std.proofs.lemmas.List.Sums.{sum_by_more}
use Rattle.cfdp_script.specs.Script.Run.{puts_in}
use Rattle.cfdp_script.proofs.script.report.asked_puts.Goals as goal

pub loop-step-preserved : goal.loop-step-preserved
loop-step-preserved c =
    let more = sum_by_more puts_in c.args.steps.now c.loop-step.step-index c.step-item.result c.loop-step-test.true in
    let item : puts_in c.step-item.result ≡ puts_in (get_or c.args.steps.now c.loop-step.step-index c.step-item.result) = ap puts_in c.step-item.is in
    (omega (arith, more, item, c.puts_in-count.ensures.same, c.loop-step.invariant.0), omega (arith, c.puts_in-count.ensures.one, c.loop-step.invariant.1))

pub returns : goal.returns
returns c = c.loop-step.invariant.0 ∙ ap (sum_by puts_in) (take_all _ _ c.loop-step-test.false)
