use Rattle.std.proofs.Common.{subst}
use Rattle.cfdp_store.specs.contracts.memory.MemoryInboxInbox.TheImpl.{ghosts}
use Rattle.cfdp_entity.specs.Desk.{DeskState, on_desk}
use Rattle.cfdp_entity.specs.Forgetting.{without_file}
use Rattle.cfdp_entity.specs.Roomy.{Roomy, Becomes}
use Rattle.cfdp_entity.specs.Whole.{roomy_of}
use Rattle.cfdp_entity.proofs.FilesGone.{whole-without, becomes-without}
use Rattle.cfdp_entity.proofs.table.Table+O+MemoryInbox.remove_file.Goals as goal

pub invariant_of-self : goal.invariant_of-self
invariant_of-self g c =
    whole-without c.self.inside.gone (on_desk g.O.Outbox ghosts c.self.inside.desk) _ _ _ c.args.name.now c.remove.ensures.staged c.remove.ensures.published c.remove.ensures.failures
    c.self.inside.records.entries c.self.inside.ready c.self.invariant

pub returns-clause-gone : goal.returns-clause-gone
returns-clause-gone g c =
    let desk : DeskState = on_desk g.O.Outbox ghosts c.self.inside.desk in
    let es = c.self.inside.records.entries in
    let now : Roomy = roomy_of c.self.inside.gone (record desk { staged = ghosts.staged c.remove.new.self; files = ghosts.published c.remove.new.self; inbox_failures = ghosts.failures c.remove.new.self }) es in
    subst (λ (v : Roomy). Becomes (without_file c.args.name.now v.state) v now) c.self.view_is
    (becomes-without c.self.inside.gone desk _ _ _ c.args.name.now c.remove.ensures.staged c.remove.ensures.published c.remove.ensures.failures es)
