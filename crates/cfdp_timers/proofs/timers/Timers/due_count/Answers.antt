-- The walk counts the due timers, and no more than four of each transaction.
use Rattle.std.proofs.Common.{ap, ◌∙◌, max}
use Rattle.cfdp_timers.specs.Due.{due_count}
use Rattle.cfdp_timers.proofs.Distinct.{length-due-alarms}
use Rattle.cfdp_timers.proofs.timers.Timers.due_count.Goals as goal

pub returns-clause-count : goal.returns-clause-count
returns-clause-count c =
    c.due_count.ensures.count ∙ length-due-alarms c.self.inside.entries.entries c.max.result c.self.invariant.0
    ∙ ap (λ state. due_count state.armed c.max.result) c.self.view_is
    ∙ ap (due_count c.args.self.now.armed) (c.max.ensures ∙ ap (λ state. max state.time c.args.now) c.self.view_is)
