use Rattle.std.proofs.Common.{OnOk, sym, subst}
use Rattle.cfdp_entity.specs.declared.record.Record.{Record}
use Rattle.cfdp_entity.specs.Restoring.{record_kept}
use Rattle.any_order.specs.Restoring.{RestoresKept}
use Rattle.any_order.proofs.restoring.restore_record.Goals as goal

pub returns-in-Receives-clause-restored : goal.returns-in-Receives-clause-restored
returns-in-Receives-clause-restored g c =
    subst (λ (k : Record). OnOk c.restore_receiver.result (RestoresKept c.args.id (record_kept (c.args.id, k)).1 c.args.station.now.entity.state c.restore_receiver.new.station.entity.state)) (sym c.in-Receives.is)
    (c.restore_receiver.ensures.restored c.args.id)
