use Rattle.std.proofs.Common.{◌≡◌, Some, slice_get, Result, Ok, Err, OnOk, sym, ap, ◌∙◌}
use Rattle.cfdp_entity.specs.Entity.{Counted}
use Rattle.cfdp_entity.specs.Forgetting.{over_in}
use Rattle.cfdp_entity.proofs.Histories.{key-at}
use Rattle.cfdp_entity.proofs.Letting.{goes-so, over-there}
use Rattle.cfdp_entity.proofs.entity.Entity.forget_if_over.Goals as goal

on_ok : {X E P Q : Type 0} (r : Result X E) → (P → Q) → OnOk r P → OnOk r Q
on_ok (Ok x) f p = f p
on_ok (Err e) f p = tt

pub forget_at-requires : goal.forget_at-requires
forget_at-requires g c =
    let xs = c.args.self.now.state.table.records in
    let over : over_in (slice_get xs c.args.place) ≡ Some c.in-Some.id =
    ap (λ (v : Counted). over_in (slice_get v.state.table.records c.args.place)) (sym c.self.view_is) ∙ sym c.in-Some.ensures in
    let there = over-there (slice_get xs c.args.place) c.in-Some.id over in
    record { at = key-at xs c.args.place (c.in-Some.id, there.0) there.1.0 }

pub returns-in-Some-clause-ok : goal.returns-in-Some-clause-ok
returns-in-Some-clause-ok g c =
    let xs = c.args.self.now.state.table.records in
    let over : over_in (slice_get xs c.args.place) ≡ Some c.in-Some.id =
    ap (λ (v : Counted). over_in (slice_get v.state.table.records c.args.place)) (sym c.self.view_is) ∙ sym c.in-Some.ensures in
    on_ok c.forget_at.result (λ is. goes-so c.args.place c.in-Some.id c.args.self.now.state _ over (ap (λ (v : Counted). v.state) is)) c.forget_at.ensures.ok
