use Rattle.std.proofs.Common.{◌≡◌, ◌⊎◌, true, ap, subst, ◌∙◌}
use Rattle.cfdp_header.specs.declared.value.TransactionId.{TransactionId}
use Rattle.cfdp_entity.specs.Entity.{EntityState, is_forgotten}
use Rattle.cfdp_entity.specs.Restoring.{all_kept}
use Rattle.any_order.specs.Restoring.{ForgetsOnly, IsClosedIn}
use Rattle.any_order.proofs.ComingBack.{same-next}
use Rattle.any_order.proofs.world.restore_from.Goals as goal

pub returns-clause-back : goal.returns-clause-back
returns-clause-back g c new is =
    let killed : EntityState = c.args.killed.now.entity.state in
    let all = c.in_ok-restore_all.ensures.restored in
    record {
      valid = c.requires.valid;
      unused = c.requires.unused;
      begun = all.0;
      begins = subst (λ (e : EntityState). ForgetsOnly (λ (id : TransactionId). (is_forgotten killed id ≡ true) ⊎ IsClosedIn (all_kept killed.table) id) e all.0) c.requires.new all.1.0;
      forgotten = all.1.1.0;
      mid = c.restore_all.new.station.entity.state;
      records = all.1.1.1;
      stands = c.show_stands.ensures;
      told = is;
    }

pub returns-clause-next : goal.returns-clause-next
returns-clause-next g c =
    let all = c.in_ok-restore_all.ensures.restored in
    same-next (all_kept c.args.killed.now.entity.state.table) all.0 c.restore_all.new.station.entity.state all.1.1.1
    ∙ (ap (λ (e : EntityState). e.next) all.1.0.forgets.same ∙ ap (λ (e : EntityState). e.next) c.requires.new)
