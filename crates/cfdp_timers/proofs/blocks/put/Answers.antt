-- The block of the index is the one that changes.
use Rattle.std.proofs.Common.{arith}
use Rattle.cfdp_timers.proofs.Firsts.{block-within, first-before, firsts-put}
use Rattle.cfdp_timers.proofs.blocks.put.Goals as goal

pub slice_copy_out-first : goal.slice_copy_out-first
slice_copy_out-first c = block-within 64 c.args.each.now c.args.place c.args.old (omega arith) c.requires.within c.args.firsts.now c.requires.are

pub first_of-requires-clause-first : goal.first_of-requires-clause-first
first_of-requires-clause-first c = first-before 64 c.args.each.now c.args.place c.args.old (omega arith) c.requires.within c.args.firsts.now c.requires.are

pub bounds-firsts-block : goal.bounds-firsts-block
bounds-firsts-block c = block-within 64 c.args.each.now c.args.place c.args.old (omega arith) c.requires.within c.args.firsts.now c.requires.are

pub returns : goal.returns
returns c = record { are = firsts-put 64 c.args.each.now c.args.place c.args.old (omega arith) c.requires.within c.args.firsts.now c.requires.are c.first_of.result c.first_of.ensures }
