-- One more deadline.
use Rattle.std.proofs.Common.{◌+◌, drop, get_or, None, sym, ap, ◌∙◌, arith}
use Rattle.std.proofs.lemmas.List.{at_drop_more, at_drop_all}
use Rattle.cfdp_timers.specs.Entries.{earlier, earliest_of}
use Rattle.cfdp_timers.proofs.Alarms.{earlier_assoc, earlier_none}
use Rattle.cfdp_timers.proofs.Firsts.{earliest_of-cons, earliest_of-nil}
use Rattle.cfdp_timers.proofs.blocks.earliest_of.Goals as goal

pub loop-deadline-preserved : goal.loop-deadline-preserved
loop-deadline-preserved c =
    let xs = c.args.deadlines.now in
    let i = c.loop-deadline.deadline-index in
    let x = get_or xs i None in
    let behind = earliest_of (drop (i + 1) xs) in
    ap (λ o. earlier o behind) (c.earlier-earliest.ensures) ∙ earlier_assoc c.loop-deadline.earliest x behind
    ∙ ap (earlier c.loop-deadline.earliest) (sym (at_drop_more earliest_of xs i None (omega arith) ∙ earliest_of-cons x (drop (i + 1) xs))) ∙ c.loop-deadline.invariant

pub returns : goal.returns
returns c =
    let xs = c.args.deadlines.now in
    sym (earlier_none c.loop-deadline.earliest) ∙ ap (earlier c.loop-deadline.earliest) (sym (at_drop_all earliest_of xs c.loop-deadline.deadline-index (omega arith) ∙ earliest_of-nil))
    ∙ c.loop-deadline.invariant
