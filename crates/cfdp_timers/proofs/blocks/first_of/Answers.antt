-- If the index wasn't the earliest before, or is no later now, the others' earliest is known.
use Rattle.std.proofs.Common.{inl, inr, None, get_or, sym, ap, ◌∙◌, arith}
use Rattle.cfdp_timers.specs.Entries.{earliest_of}
use Rattle.cfdp_timers.proofs.Firsts.{window-changed, same_deadline, other_deadline}
use Rattle.cfdp_timers.proofs.blocks.first_of.Goals as goal

pub returns-then-ne : goal.returns-then-ne
returns-then-ne c =
    c.earlier.ensures
    ∙ window-changed 64 c.args.each.now c.args.place c.args.old (omega arith) c.requires.within c.args.first c.requires.first
    (inl (other_deadline c.args.first c.args.old (sym c.ne.ensures ∙ c.if-ne.true)))

pub returns-then-eq : goal.returns-then-eq
returns-then-eq c =
    let least = same_deadline c.earlier-2.result (get_or c.args.each.now c.args.place None) (sym c.eq.ensures ∙ c.if-eq.true) in
    c.earlier-then-eq.ensures
    ∙ window-changed 64 c.args.each.now c.args.place c.args.old (omega arith) c.requires.within c.args.first c.requires.first (inr (sym c.earlier-2.ensures ∙ least))

pub returns : goal.returns
returns c = c.earliest_of.ensures ∙ ap earliest_of c.block_of.ensures
