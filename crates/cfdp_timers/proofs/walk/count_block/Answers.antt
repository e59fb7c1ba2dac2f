-- A block whose bound is later is skipped.
use Rattle.std.proofs.Common.{◌<◌, length, get_or, ap, arith}
use Rattle.cfdp_timers.proofs.Skipped.{due-block}
use Rattle.cfdp_timers.proofs.walk.count_block.Goals as goal

pub returns-then-now-at : goal.returns-then-now-at
returns-then-now-at c =
    let bound = get_or c.args.bounds.now c.args.block 0 in
    let later : c.args.now < bound = omega (arith, c.at.ensures, c.if-now-at.true) in
    let skipped = ap length (due-block c.args.now c.args.entries.now.entries c.args.block bound (c.requires.bounds.each c.args.block c.requires.within) later) in
    record { count = omega (arith, skipped) }
