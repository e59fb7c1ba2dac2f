use Rattle.std.proofs.Common.{◌≡◌, List, map, inl, inr, refl, sym, ap, subst, ◌∙◌}
use Rattle.cfdp_header.specs.declared.value.TransactionId.{TransactionId}
use Rattle.cfdp_entity.specs.declared.record.Record.{Record}
use Rattle.cfdp_entity.specs.Entity.{EntityState}
use Rattle.cfdp_entity.specs.Restoring.{Kept, all_kept, record_kept}
use Rattle.any_order.specs.Restoring.{IsClosedIn, IsOfClosed}
use Rattle.any_order.proofs.Forgetting.{forgets-none, only-both}
use Rattle.any_order.proofs.restoring.forget_closed.Goals as goal

pub loop-id-init : goal.loop-id-init
loop-id-init g c =
    let all = all_kept c.args.killed.now.entity.state.table in
    let e : EntityState = c.args.station.now.entity.state in
    record {
      forgets = forgets-none (IsClosedIn all) e e refl;
      among = λ id is.
          subst (λ (ks : List (TransactionId × Kept)). IsClosedIn ks id)
          (ap (λ (l : List (TransactionId × Record)). map record_kept l) c.into_iter-id-iterator.ensures.into_iter_gives ∙ c.records-id-items.ensures) is;
      link = (refl, refl);
    }

pub loop-id-preserved : goal.loop-id-preserved
loop-id-preserved g c =
    let all = all_kept c.args.killed.now.entity.state.table in
    let inv = c.loop-id.invariant in
    let one = c.in_ok-forget_if_closed.ensures in
    let its = c.in-Some.id.now in
    let kept = c.in-Some.record.now in
    let rest : List (TransactionId × Record) = c.next.new.self in
    let first : EntityState = c.args.station.now.entity.state in
    let mid : EntityState = c.loop-id.station.entity.state in
    let new : EntityState = c.forget_if_closed.new.station.entity.state in
    record {
      forgets = only-both (IsClosedIn all) (λ (q : TransactionId). (q ≡ its) × IsOfClosed (record_kept (its, kept)).1) (IsClosedIn all) first mid new (λ id is. is)
          (λ id is. inv.among id (subst (λ (l : List (TransactionId × Record)). IsClosedIn (map record_kept l) id) (sym c.in-Some.ensures.steps) (inl is))) inv.forgets one.forgets;
      among = λ id is. inv.among id (subst (λ (l : List (TransactionId × Record)). IsClosedIn (map record_kept l) id) (sym c.in-Some.ensures.steps) (inr is));
      link = (one.link.0 ∙ inv.link.0, one.link.1 ∙ inv.link.1);
    }
