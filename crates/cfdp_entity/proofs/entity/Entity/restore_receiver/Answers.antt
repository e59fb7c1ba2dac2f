use Rattle.std.proofs.Common.{◌≢◌, sym, ap, ◌∙◌}
use Rattle.cfdp_entity.specs.Entity.{Counted, next_of}
use Rattle.cfdp_entity.specs.Table.{TableState}
use Rattle.cfdp_entity.proofs.RestoredReceivers.{free-added, from-peer}
use Rattle.cfdp_entity.proofs.entity.Entity.restore_receiver.Goals as goal

pub invariant_of-self-2 : goal.invariant_of-self-2
invariant_of-self-2 g c =
    let other : c.args.kept.addressing.id.source ≢ c.self.inside.config.entity =
    λ own. c.self.invariant.0.ids.apart (sym own ∙ from-peer c.args.kept.addressing c.args.self.now.state c.in_default.ensures.may.own
    ∙ sym (ap (λ (v : Counted). v.state.config.peer) c.self.view_is)) in (
      c.self.invariant.0,
      c.self.invariant.1,
      free-added c.self.inside.config.entity (next_of c.self.inside.next) c.self.inside.table.state.records c.restore_receiver.new.self.state.records _
          (ap (λ (t : TableState). t.records) c.in_ok-restore_receiver.ensures.restored.added) other c.self.invariant.2,
      c.self.invariant.3,
    )
