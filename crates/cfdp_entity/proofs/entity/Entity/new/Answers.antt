use Rattle.std.proofs.Common.{ap}
use Rattle.circular_buffer.specs.Buffer.{Buffer}
use Rattle.cfdp_entity.specs.Roomy.{Roomy}
use Rattle.cfdp_entity.specs.Strays.{StrayAck}
use Rattle.cfdp_entity.proofs.PutNumbers.{free-first, unforgotten-first}
use Rattle.cfdp_entity.proofs.entity.Entity.new.Goals as goal

pub invariant_of-result : goal.invariant_of-result
invariant_of-result g c = (
  c.get-config.ensures.valid,
  ap (λ (b : Buffer StrayAck). b.capacity) c.in_ok-strays.ensures,
  free-first c.get-config.result.entity c.get-config.result.first_number c.in_ok-table.table.state _ _ _ _ (ap (λ (v : Roomy). v.state) c.in_ok-table.ensures),
  unforgotten-first c.get-config.result.entity c.get-config.result.first_number _ c.new-2.ensures,
)
