use Rattle.std.proofs.Common.{◌≡◌, ℕ, ◌<◌, false}
use Rattle.cfdp_entity.specs.Looking.{sends_at}
use Rattle.cfdp_entity.proofs.table.Table.is_sending.Given as goal

abbrev pub invariant-loop-place : goal.invariant-loop-place
invariant-loop-place g l = (k : ℕ) → k < l.place → sends_at l.name k l.self.state ≡ false
