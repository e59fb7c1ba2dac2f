use Rattle.std.proofs.Common.{◌≡◌, ℕ, Option, IfSome, inl, subst}
use Rattle.cfdp_sender.specs.declared.restoring.CommittedSender.{CommittedSender}
use Rattle.cfdp_sender.specs.Back.{committed_of}
use Rattle.cfdp_entity.specs.Restoring.{RestoresSender}
use Rattle.any_order.proofs.restoring.restore_sender.Goals as goal

pub returns-clause-restored : goal.returns-clause-restored
returns-clause-restored g c =
    let one = c.in_ok-restore_sender.ensures in
    let old = c.args.station.now.entity.state in
    let new = c.restore_sender.new.self.entity.state in
    let is : c.in-Some.kept ≡ committed_of c.args.sender.now = subst (λ (o : Option CommittedSender). IfSome o (λ k. k ≡ committed_of c.args.sender.now)) c.in-Some.is c.in-Ok.ensures in
    inl (
      subst (λ (n : ℕ). RestoresSender (committed_of c.args.sender.now) n old new) c.front_of.ensures (subst (λ (k : CommittedSender). RestoresSender k c.front_of.result old new) is one.restored),
      one.shows,
    )
