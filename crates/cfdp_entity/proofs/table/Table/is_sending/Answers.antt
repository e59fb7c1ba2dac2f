use Rattle.std.proofs.Common.{arith}
use Rattle.cfdp_entity.proofs.Looked.{unsent-all}
use Rattle.cfdp_entity.proofs.table.Table.is_sending.Goals as goal

pub returns-clause-unsent : goal.returns-clause-unsent
returns-clause-unsent g c = λ no. unsent-all c.args.name.now c.args.self.now.state (λ k low.
    let count = c.len-place-end.ensures.len in
    let past = c.loop-place-test.false in
    c.loop-place.invariant k (omega (arith, low, count, past)))
