use Rattle.std.proofs.Common.{ℕ, List, ◌++◌, ◌∙◌, ap}
use Rattle.cfdp_any_order_script.specs.Report.{report_text}
use Rattle.cfdp_any_order_script.proofs.Running.{run_all, run_told}
use Rattle.cfdp_any_order_script.proofs.run.make_report_at.Goals as goal

pub returns-in-Ok-clause-ran : goal.returns-in-Ok-clause-ran
returns-in-Ok-clause-ran c config files first =
    run_all config files c.args.steps.now c.args.play.now c.perform_all.new.play c.perform_all.new.answered.items c.as_slice.result.now first c.perform_all.ensures
    c.as_slice.ensures.value c.show_promise.ensures

pub returns-in-Ok-clause-ends : goal.returns-in-Ok-clause-ends
returns-in-Ok-clause-ends c config files first =
    run_told c.in-Ok.exit config files c.args.steps.now c.args.play.now c.perform_all.new.play c.perform_all.new.answered.items c.as_slice.result.now c.asked_puts.result
    c.report.new.out.items first c.perform_all.ensures c.as_slice.ensures.value c.show_promise.ensures c.asked_puts.ensures c.in-Ok.ensures.ends
    (c.in-Ok.ensures.written ∙ ap (λ (l : List ℕ). l ++ report_text c.asked_puts.result c.as_slice.result.now c.perform_all.new.play.world) c.new-text.ensures.items)
