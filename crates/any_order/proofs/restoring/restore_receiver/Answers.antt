use Rattle.std.proofs.Common.{subst}
use Rattle.std.specs.FinSet as set
use Rattle.cfdp_extents.specs.Offsets.{Offsets}
use Rattle.cfdp_receiver.specs.declared.restoring.CommittedReceiver.{CommittedReceiver}
use Rattle.cfdp_entity.specs.Restoring.{RestoresReceiver}
use Rattle.any_order.proofs.restoring.restore_receiver.Goals as goal

pub returns-clause-restored : goal.returns-clause-restored
returns-clause-restored g c id =
    subst (λ (k : CommittedReceiver). RestoresReceiver k set.empty c.args.station.now.entity.state c.restore_receiver.new.self.entity.state) c.in-Ok.ensures
    (subst (λ (h : Offsets). RestoresReceiver c.in-Ok.kept h c.args.station.now.entity.state c.restore_receiver.new.self.entity.state) c.new.ensures c.in_ok-restore_receiver.ensures.restored)
