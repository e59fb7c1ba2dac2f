-- The transactions are the same, and one timer is set.
use Rattle.std.proofs.Common.{ap, ◌∙◌}
use Rattle.std.specs.FinSet as set
use Rattle.cfdp_timers.specs.Armed.{with_timer}
use Rattle.cfdp_timers.specs.Entries.{armed_of}
use Rattle.cfdp_timers.proofs.Written.{state_of-written}
use Rattle.cfdp_timers.proofs.timers.Timers.set_deadline.Goals as goal

pub set_deadline-requires-clause-room : goal.set_deadline-requires-clause-room
set_deadline-requires-clause-room c = λ some. ap (λ state. set.contains state.roomy c.args.id) c.self.view_is ∙ c.requires some

pub returns : goal.returns
returns c =
    let es = c.self.inside.entries.entries in
    state_of-written c.self.inside.time es c.set_deadline.new.entries.entries
    (with_timer (armed_of es) (c.args.id, c.args.kind) c.args.deadline) c.set_deadline.ensures.keys c.set_deadline.ensures.armed
    ∙ ap (λ state. record { time = state.time; roomy = state.roomy; armed = with_timer state.armed (c.args.id, c.args.kind) c.args.deadline }) c.self.view_is
