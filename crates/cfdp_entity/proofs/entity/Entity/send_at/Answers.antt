use Rattle.std.proofs.Common.{ap}
use Rattle.cfdp_entity.specs.Entity.{next_of}
use Rattle.cfdp_entity.specs.Table.{table_lent}
use Rattle.cfdp_entity.specs.Gives.{stored_by_gave}
use Rattle.cfdp_entity.proofs.PutNumbers.{free-taken}
use Rattle.cfdp_entity.proofs.entity.Entity.send_at.Goals as goal

pub invariant_of-self-2 : goal.invariant_of-self-2
invariant_of-self-2 g c = (
  c.self.invariant.0,
  c.self.invariant.1,
  free-taken c.self.inside.config.entity (next_of c.self.inside.next) (table_lent c.send-gave.new.self.state c.self.inside.table.state)
      (table_lent c.send-gave.new.self.state c.reserve.new.self.state) c.send-gave.new.self.state (ap (table_lent c.send-gave.new.self.state) c.reserve.ensures.stays.state) c.self.invariant.2
      (stored_by_gave c.send-gave.result) c.args.place c.send-gave.ensures.sends.state,
  c.self.invariant.3,
)
