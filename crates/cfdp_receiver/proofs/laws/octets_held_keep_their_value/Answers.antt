use Rattle.std.proofs.Common.{ap, ◌∙◌, length, ◌+◌, ◌||◌}
use Rattle.std.specs.FinSet as set
use Rattle.cfdp_extents.specs.Offsets.{range}
use Rattle.cfdp_receiver.proofs.FactsPieces.{staged-new}
use Rattle.cfdp_receiver.proofs.laws.octets_held_keep_their_value.Goals as goal

pub returns-clause-staged : goal.returns-clause-staged
returns-clause-staged c =
    let sets = c.a_set_is_what_it_holds.ensures in
    let gaps = c.the_gaps_are_those_ranges.ensures in
    let stand = c.written_octets_stand.ensures in
    staged-new sets.range sets.ranges sets.difference gaps.are gaps.inside (record { inside = stand.written; below = stand.below; behind = stand.behind })

pub returns-clause-held : goal.returns-clause-held
returns-clause-held c r offset bytes n =
    let sets = c.a_set_is_what_it_holds.ensures in
    let end = offset + length bytes in
    sets.union r.held (range offset end) n ∙ ap (λ b. set.contains r.held n || b) (sets.range offset end n)
