use Rattle.std.proofs.Common.{◌≡◌, Some, slice_get, sym, ap, ◌∙◌}
use Rattle.cfdp_entity.specs.Entity.{Counted}
use Rattle.cfdp_entity.specs.Forgetting.{refusal_of}
use Rattle.cfdp_entity.specs.Table.{place_of}
use Rattle.cfdp_entity.proofs.Histories.{key-at}
use Rattle.cfdp_entity.proofs.Left.{entry-there}
use Rattle.cfdp_entity.proofs.entity.Entity.forget.Goals as goal

pub forget_at-requires : goal.forget_at-requires
forget_at-requires g c =
    let xs = c.args.self.now.state.table.records in
    let is : place_of c.args.id xs ≡ Some c.in-Some.place = sym (ap (λ (v : Counted). place_of c.args.id v.state.table.records) c.self.view_is) ∙ sym c.in-Some.ensures in
    let there = entry-there xs c.args.id c.in-Some.place is in
    record { at = key-at xs c.in-Some.place (c.args.id, there.0) there.1 }

pub returns-in-Ok-clause-forgot : goal.returns-in-Ok-clause-forgot
returns-in-Ok-clause-forgot g c =
    let xs = c.args.self.now.state.table.records in
    let is : place_of c.args.id xs ≡ Some c.in-Some.place = sym (ap (λ (v : Counted). place_of c.args.id v.state.table.records) c.self.view_is) ∙ sym c.in-Some.ensures in
    let there = entry-there xs c.args.id c.in-Some.place is in
    record {
      place = c.in-Some.place;
      seen = there.0;
      at = there.1;
      allowed = sym (c.in_default-forget_refusal_at.ensures ∙ ap (λ (v : Counted). refusal_of (slice_get v.state.table.records c.in-Some.place)) c.self.view_is ∙ ap refusal_of there.1);
      forgot = ap (λ (v : Counted). v.state) c.in-Ok.ensures.ok;
    }
