use Rattle.cfdp_entity.specs.Desk.{on_desk}
use Rattle.cfdp_entity.proofs.Restored.{whole-read}
use Rattle.cfdp_entity.proofs.table.Table.sums_of_front.Goals as goal

pub invariant_of-self : goal.invariant_of-self
invariant_of-self g c =
    whole-read (on_desk g.O.Outbox g.I.Inbox c.self.inside.desk) _ _ _ c.self.inside.records.entries c.self.inside.ready c.sums_of_front.ensures.rereads c.self.invariant
