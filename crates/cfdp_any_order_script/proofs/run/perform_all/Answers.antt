use Rattle.std.proofs.Common.{◌+◌, ap, refl, ◌∙◌}
use Rattle.std.proofs.lemmas.List.{take_more}
use Rattle.cfdp_any_order_script.proofs.Running.{one_more_done}
use Rattle.cfdp_any_order_script.proofs.run.perform_all.Goals as goal

pub loop-step-preserved : goal.loop-step-preserved
loop-step-preserved c = (
  rw (c.push_reserved.ensures.items, take_more c.args.steps.now c.loop-step.step-index c.step-item.result c.loop-step-test.true, ← c.step-item.is)
      (one_more_done _ _ c.step-item.result _ _ _ _ c.loop-step.invariant.0 refl c.perform-answer.ensures),
  c.push_reserved.ensures.len ∙ ap (λ n. n + 1) c.loop-step.invariant.1,
  c.push_reserved.ensures.capacity ∙ c.loop-step.invariant.2,
)
