-- A block whose bound is later is skipped.
use Rattle.std.proofs.Common.{◌<◌, ◌++◌, map, get_or, sym, ap, arith}
use Rattle.cfdp_timers.specs.Entries.{entry_of}
use Rattle.cfdp_timers.proofs.Skipped.{due-block}
use Rattle.cfdp_timers.proofs.walk.push_block.Goals as goal

pub returns-then-now-at-clause-ok : goal.returns-then-now-at-clause-ok
returns-then-now-at-clause-ok c =
    let bound = get_or c.args.bounds.now c.args.block 0 in
    let later : c.args.now < bound = omega (arith, c.at.ensures, c.if-now-at.true) in
    ap (λ l. map entry_of c.args.due.now.items ++ l)
    (sym (due-block c.args.now c.args.entries.now.entries c.args.block bound (c.requires.bounds.each c.args.block c.requires.within) later))
