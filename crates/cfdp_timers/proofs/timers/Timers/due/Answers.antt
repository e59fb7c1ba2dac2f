-- The alarms that are due are collected and sorted.
use Rattle.std.proofs.Common.{◌≡◌, ◌≤◌, Result, Ok, Err, OnErr, arith, length, map, sym, ap, subst, ◌∙◌}
use Rattle.std.specs.List.Sorted.{IsSorted}
use Rattle.std.proofs.lemmas.List.{length-map}
use Rattle.std.proofs.lemmas.List.Sorted.{length_permutation}
use Rattle.cfdp_timers.specs.contracts.alarm.AlarmOrd.TheImpl.{cmp-value}
use Rattle.cfdp_timers.specs.Due.{AreDue, due_count}
use Rattle.cfdp_timers.specs.Entries.{due, alarms, entry_of, timer_of}
use Rattle.cfdp_timers.proofs.Distinct.{length-due-alarms}
use Rattle.cfdp_timers.proofs.Firing.{are_due}
use Rattle.cfdp_timers.proofs.timers.Timers.due.Goals as goal

on_err : {T E P : Type 0} (r : Result T E) → P → OnErr r P
on_err (Ok x) p = tt
on_err (Err e) p = p

pub returns-in_err-due-clause-err : goal.returns-in_err-due-clause-err
returns-in_err-due-clause-err c =
    let es = c.self.inside.entries.entries in
    let some : 1 ≤ length (due c.args.now (alarms es)) = c.in_err-due.ensures.err in
    let size : length (due c.args.now (alarms es)) ≡ due_count c.args.self.now.armed c.args.now = length-due-alarms es c.args.now c.self.invariant.0
    ∙ ap (λ state. due_count state.armed c.args.now) c.self.view_is in
    let one : 1 ≤ due_count c.args.self.now.armed c.args.now = omega (arith, some, size) in
    on_err _ one

pub returns-clause-fired : goal.returns-clause-fired
returns-clause-fired c =
    let es = c.self.inside.entries.entries in
    let up : IsSorted (cmp-value).it c.sort_unstable.new.self.items = c.sort_unstable.ensures.sorted in
    subst (λ state. AreDue state.armed c.args.now (map timer_of c.sort_unstable.new.self.items)) c.self.view_is
    (are_due es c.args.now c.self.invariant.0 c.in_ok-due.due.items c.sort_unstable.new.self.items c.in_ok-due.ensures.ok c.sort_unstable.ensures.permutation up)

pub returns-clause-count : goal.returns-clause-count
returns-clause-count c =
    let es = c.self.inside.entries.entries in
    length_permutation c.in_ok-due.due.items c.sort_unstable.new.self.items c.sort_unstable.ensures.permutation ∙ sym (length-map c.in_ok-due.due.items entry_of) ∙ ap length c.in_ok-due.ensures.ok
    ∙ length-due-alarms es c.args.now c.self.invariant.0 ∙ ap (λ state. due_count state.armed c.args.now) c.self.view_is
