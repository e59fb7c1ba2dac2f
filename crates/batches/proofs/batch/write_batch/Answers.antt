use Rattle.std.proofs.Common.{ℕ, ◌≤◌, ◌∙◌, arith}
use Rattle.batches.proofs.Cutting.{later}
use Rattle.batches.proofs.batch.write_batch.Goals as goal

pub returns-clause-behind : goal.returns-clause-behind
returns-clause-behind c =
    let end : ℕ = c.put_bytes.result in
    let one : c.put_eight-checked.result ≤ end = omega (arith, c.put_bytes.ensures.end, c.put_four-begun.ensures.end) in
    let two : c.put_four-begun.result ≤ end = omega (arith, c.put_bytes.ensures.end) in
    c.put_bytes.ensures.behind
    ∙ later c.put_four-begun.result end _ _ two c.put_four-begun.ensures.behind
    ∙ later c.put_eight-checked.result end _ _ one c.put_eight-checked.ensures.behind
