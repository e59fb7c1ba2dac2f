-- All together are no more than four of each transaction.
use Rattle.std.proofs.Common.{arith}
use Rattle.cfdp_timers.proofs.Alarms.{length-due-le}
use Rattle.cfdp_timers.proofs.walk.due_count.Goals as goal

pub overflow_add-count : goal.overflow_add-count
overflow_add-count c =
    let here = c.count_block-count.ensures.count in
    let all = c.loop-block.invariant in
    let bound = length-due-le c.args.now c.args.entries.now.entries in
    let few = c.requires.few in
    omega (arith, here, all, bound, few)

pub returns-clause-few : goal.returns-clause-few
returns-clause-few c =
    let all = c.loop-block.invariant in
    let bound = length-due-le c.args.now c.args.entries.now.entries in
    let few = c.requires.few in
    omega (arith, all, bound, few)
