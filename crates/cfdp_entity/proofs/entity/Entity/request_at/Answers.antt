use Rattle.cfdp_entity.specs.Entity.{next_of}
use Rattle.cfdp_entity.proofs.PutNumbers.{free-called}
use Rattle.cfdp_entity.proofs.entity.Entity.request_at.Goals as goal

pub invariant_of-self-2 : goal.invariant_of-self-2
invariant_of-self-2 g c = (
  c.self.invariant.0,
  c.self.invariant.1,
  free-called c.self.inside.config.entity (next_of c.self.inside.next) c.self.inside.table.state c.reserve.new.self.state c.request.new.self.state c.reserve.ensures.stays.state c.self.invariant.2
      c.args.place c.args.request c.request.ensures.state,
  c.self.invariant.3,
)
