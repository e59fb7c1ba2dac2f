-- If all bounds are later nothing is due, and no transaction stands after the last block.
use Rattle.std.proofs.Common.{arith}
use Rattle.cfdp_timers.proofs.Skipped.{due-none, due-end}
use Rattle.cfdp_timers.proofs.walk.blocks_due.Goals as goal

pub returns-then-are_after-clause-others : goal.returns-then-are_after-clause-others
returns-then-are_after-clause-others c = due-none c.args.now c.args.entries.now.entries c.args.bounds.now c.requires.bounds (c.are_after.ensures c.if-are_after.true)

pub returns-clause-others : goal.returns-clause-others
returns-clause-others c = due-end c.args.now c.args.entries.now.entries c.div_ceil.result (omega (arith, c.div_ceil.ensures, c.len.ensures.len))
