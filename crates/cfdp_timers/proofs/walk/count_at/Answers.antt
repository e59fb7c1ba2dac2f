-- One more transaction.
use Rattle.std.proofs.Common.{◌+◌, length, drop, sym, ap, ◌∙◌, arith, length-append}
use Rattle.cfdp_header.specs.declared.value.TransactionId.{TransactionId}
use Rattle.cfdp_timers.specs.declared.deadlines.Deadlines.{Deadlines}
use Rattle.cfdp_timers.specs.Entries.{due, alarms, alarms_of}
use Rattle.cfdp_timers.proofs.Skipped.{due-at}
use Rattle.cfdp_timers.proofs.walk.count_at.Goals as goal

pub returns-in-Some-clause-count : goal.returns-in-Some-clause-count
returns-in-Some-clause-count c =
    let es = c.args.entries.now.entries in
    let e : TransactionId × Deadlines = (c.in-Some._id.now, c.in-Some.deadlines.now) in
    let behind = due c.args.now (alarms (drop (c.args.place + 1) es)) in
    let more = ap length (due-at c.args.now es c.args.place e (sym c.in-Some.ensures.entry)) ∙ length-append (due c.args.now (alarms_of e.0 e.1)) behind in
    let here = c.due_count.ensures.count e.0 in
    omega (arith, more, here)
