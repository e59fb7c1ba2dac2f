use Rattle.std.proofs.Common.{ℕ, ◌-◌, List, slice_set, slice_index_or, ap, ◌∙◌}
use Rattle.cfd_bits.specs.Counting.{raised}
use Rattle.link_stack.specs.Drops.{counted, drop_number}
use Rattle.link_stack.proofs.up_lane.Drops.count.Goals as goal

pub returns : goal.returns
unfolding counted
returns c =
    let place = c.from-place.ensures ∙ c.number.ensures in
    ap (λ n. slice_set c.self.inside.counts (c.from-place.result - 1) n) c.one_more.ensures
    ∙ ap (λ n. slice_set c.self.inside.counts (n - 1) (raised (slice_index_or c.self.inside.counts (n - 1) 0))) place
    ∙ ap (λ (l : List ℕ). slice_set l (drop_number c.args.drop - 1) (raised (slice_index_or l (drop_number c.args.drop - 1) 0))) c.self.view_is
