-- The deadlines at the index are the ones that are found.
use Rattle.std.proofs.Common.{sym, ap, ◌∙◌}
use Rattle.cfdp_header.specs.declared.value.TransactionId.{TransactionId}
use Rattle.cfdp_timers.specs.declared.deadlines.Deadlines.{Deadlines}
use Rattle.cfdp_timers.specs.Entries.{next_of}
use Rattle.cfdp_timers.proofs.Alarms.{earliest-of}
use Rattle.cfdp_timers.proofs.Skipped.{deadlines-at}
use Rattle.cfdp_timers.proofs.walk.earliest_at.Goals as goal

pub returns : goal.returns
returns c =
    let e : TransactionId × Deadlines = (c.in_ok-_id._id.now, c.in_ok-_id.deadlines.now) in
    c.next.ensures e.0 ∙ earliest-of e.0 e.1 ∙ ap next_of (sym (deadlines-at c.args.entries.now.entries c.args.place e (sym c.in_ok-_id.ensures.entry)))
