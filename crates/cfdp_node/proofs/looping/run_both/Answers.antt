use Rattle.std.proofs.Common.{ap₂, not, ◌&&◌, ◌==◌, ◌∙◌}
use Rattle.cfdp_report.specs.Exit.{run_exit}
use Rattle.cfdp_node.specs.Looping.Turns.{more_failures}
use Rattle.cfdp_node.proofs.LoopLemmas.{is_told}
use Rattle.cfdp_node.proofs.looping.run_both.Goals as goal

pub returns-in-Ok : goal.returns-in-Ok
returns-in-Ok g c =
    let one = c.run-ended.new.one.station in
    let two = c.run-ended.new.two.station in
    let failed = c.have_failed-failed.ensures ∙ ap₂ (λ r w. more_failures r w one two) c.outbox_failures-read.ensures c.inbox_failures-written.ensures in
    let counts = c.has_failed.ensures ∙ ap₂ (λ f k. f && not (k == 1)) failed c.in-Ok.ensures.complete in (
      (c.run-ended.result.answer, c.run-ended.result.short, c.run-ended.ensures),
      is_told c.of_run.result _ (record {
        answer = c.run-ended.result.answer;
        short = c.run-ended.result.short;
        runs = c.run-ended.ensures;
        ends = c.of_run.ensures ∙ ap₂ (λ f k. run_exit c.run-ended.result.short f k 1) counts c.in-Ok.ensures.complete;
        written = c.in-Ok.ensures.written;
      }),
    )

pub returns-in-Err : goal.returns-in-Err
returns-in-Err g c = ((c.run-ended.result.answer, c.run-ended.result.short, c.run-ended.ensures), tt)
