use Rattle.std.proofs.Common.{◌≡◌, Some, slice_get, ap, ◌∙◌}
use Rattle.std.specs.Map.{keys_of}
use Rattle.cfdp_entity.specs.Entity.{Counted, next_of}
use Rattle.cfdp_entity.specs.Table.{TableState}
use Rattle.cfdp_entity.proofs.Left.{free-left, unforgotten-left}
use Rattle.cfdp_entity.proofs.entity.Entity.forget_at.Goals as goal

pub invariant_of-self-then-place-self : goal.invariant_of-self-then-place-self
invariant_of-self-then-place-self g c =
    let entity = c.self.inside.config.entity in
    let next = next_of c.self.inside.next in
    let xs = c.self.inside.table.state.records in
    let at : slice_get (keys_of xs) c.args.place ≡ Some c.args.id = ap (λ (v : Counted). slice_get (keys_of v.state.table.records) c.args.place) c.self.view_is ∙ c.requires.at in (
      c.self.invariant.0,
      c.self.invariant.1,
      free-left entity next xs c.forget.new.self.state.records c.args.place (ap (λ (t : TableState). t.records) c.forget.ensures.state) c.self.invariant.2,
      unforgotten-left entity next xs c.args.place c.args.id c.self.inside.forgotten c.insert.new.self at c.self.invariant.2 c.in_ok-insert.ensures.ok c.self.invariant.3,
    )

pub invariant_of-self-else-place-self : goal.invariant_of-self-else-place-self
invariant_of-self-else-place-self g c =
    let entity = c.self.inside.config.entity in
    let next = next_of c.self.inside.next in
    let xs = c.self.inside.table.state.records in
    let at : slice_get (keys_of xs) c.args.place ≡ Some c.args.id = ap (λ (v : Counted). slice_get (keys_of v.state.table.records) c.args.place) c.self.view_is ∙ c.requires.at in (
      c.self.invariant.0,
      c.self.invariant.1,
      free-left entity next xs c.forget.new.self.state.records c.args.place (ap (λ (t : TableState). t.records) c.forget.ensures.state) c.self.invariant.2,
      unforgotten-left entity next xs c.args.place c.args.id c.self.inside.forgotten c.insert.new.self at c.self.invariant.2 c.in_ok-insert.ensures.ok c.self.invariant.3,
    )
