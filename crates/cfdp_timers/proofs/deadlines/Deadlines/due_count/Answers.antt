-- The four timers are counted one by one.
use Rattle.std.proofs.Common.{arith}
use Rattle.cfdp_timers.specs.declared.kind.Kind.TheVariants.{EofAck, Nak, FinishedAck, Inactivity}
use Rattle.cfdp_timers.proofs.Alarms.{length-due_of}
use Rattle.cfdp_timers.proofs.deadlines.Deadlines.due_count.Goals as goal

pub returns-clause-count : goal.returns-clause-count
returns-clause-count c = λ id.
    let all = length-due_of c.args.now id c.args.self.now in
    let first = c.due_count.ensures.count id EofAck in
    let second = c.due_count-2.ensures.count id Nak in
    let third = c.due_count-3.ensures.count id FinishedAck in
    let fourth = c.due_count-4.ensures.count id Inactivity in
    omega (arith, all, first, second, third, fourth)
