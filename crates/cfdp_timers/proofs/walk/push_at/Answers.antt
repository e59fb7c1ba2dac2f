-- One more transaction.
use Rattle.std.proofs.Common.{◌+◌, ◌++◌, drop, map, sym, ap, ◌∙◌, append_assoc, Result, Ok, Err, OnOk, OnErr}
use Rattle.cfdp_header.specs.declared.value.TransactionId.{TransactionId}
use Rattle.cfdp_timers.specs.declared.deadlines.Deadlines.{Deadlines}
use Rattle.cfdp_timers.specs.Entries.{due, alarms, alarms_of, entry_of}
use Rattle.cfdp_timers.proofs.Skipped.{due-at, some-at}
use Rattle.cfdp_timers.proofs.walk.push_at.Goals as goal

on_ok : {T E P Q : Type 0} (r : Result T E) → (P → Q) → OnOk r P → OnOk r Q
on_ok (Ok x) f p = f p
on_ok (Err e) f p = tt

on_err : {T E P Q : Type 0} (r : Result T E) → (P → Q) → OnErr r P → OnErr r Q
on_err (Ok x) f p = tt
on_err (Err e) f p = f p

pub returns-in-Some-clause-ok : goal.returns-in-Some-clause-ok
returns-in-Some-clause-ok c =
    let es = c.args.entries.now.entries in
    let e : TransactionId × Deadlines = (c.in-Some.id.now, c.in-Some.deadlines.now) in
    let had = map entry_of c.args.due.now.items in
    let here = due c.args.now (alarms_of e.0 e.1) in
    let behind = due c.args.now (alarms (drop (c.args.place + 1) es)) in
    let more = due-at c.args.now es c.args.place e (sym c.in-Some.ensures.entry) in
    on_ok c.push_due.result (λ added. ap (λ l. l ++ behind) added ∙ append_assoc had here behind ∙ ap (λ l. had ++ l) (sym more)) c.push_due.ensures.ok

pub returns-in-Some-clause-err : goal.returns-in-Some-clause-err
returns-in-Some-clause-err c =
    let e : TransactionId × Deadlines = (c.in-Some.id.now, c.in-Some.deadlines.now) in
    on_err c.push_due.result (some-at c.args.now c.args.entries.now.entries c.args.place e (sym c.in-Some.ensures.entry)) c.push_due.ensures.err
