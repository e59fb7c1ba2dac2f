use Rattle.std.proofs.Common.{◌≡◌, ◌+◌, ◌-◌, ◌<◌, suc, length, arith, refl, ap, subst, ◌∙◌, slice_get}
use Rattle.cfdp_entity.specs.Entity.{Counted}
use Rattle.cfdp_entity.specs.Forgetting.{over_in}
use Rattle.cfdp_entity.proofs.Letting.{NoneFrom, forgets-none, none-behind, none-then, some-then}
use Rattle.cfdp_entity.proofs.entity.Entity.forget_closed.Goals as goal

pub loop-behind-init : goal.loop-behind-init
loop-behind-init g c = record {
  some = forgets-none _;
  looked = none-behind _ _ (omega arith);
  inbox = refl;
  outbox = refl;
}

pub loop-behind-preserved : goal.loop-behind-preserved
loop-behind-preserved g c =
    let xs = c.args.self.now.state.table.records in
    let mid = c.loop-behind.self.state in
    let behind = c.loop-behind.behind in
    let count : c.len-count.result ≡ length xs = c.len-count.ensures.len ∙ ap (λ (v : Counted). length v.state.table.records) c.self.view_is in
    let low : behind < c.len-count.result = c.loop-behind-test.true in
    let place = c.len-count.result - 1 - behind in
    let from : length xs - behind ≡ suc place = omega (arith, count, low) in
    let to : place ≡ length xs - (behind + 1) = omega (arith, count, low) in
    let goes = c.in_ok-forget_if_over.ensures.ok in
    record {
      some = some-then (over_in (slice_get mid.table.records place)) place _ mid _ c.loop-behind.invariant.some goes;
      looked = subst (λ n. NoneFrom n c.forget_if_over.new.self.state.table.records) to
          (none-then (over_in (slice_get mid.table.records place)) place mid c.forget_if_over.new.self.state refl goes
          (subst (λ n. NoneFrom n mid.table.records) from c.loop-behind.invariant.looked));
      inbox = c.forget_if_over.ensures.inbox ∙ c.loop-behind.invariant.inbox;
      outbox = c.forget_if_over.ensures.outbox ∙ c.loop-behind.invariant.outbox;
    }
