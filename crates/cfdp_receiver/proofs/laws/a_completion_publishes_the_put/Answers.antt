use Rattle.cfdp_receiver.proofs.SoundSteps.{LowerLaws}
use Rattle.cfdp_receiver.proofs.SoundHears.{step-true}
use Rattle.cfdp_receiver.proofs.laws.a_completion_publishes_the_put.Goals as goal

pub returns : goal.returns
returns c put heard stored input m files r truth s =
    let sets = c.a_set_is_what_it_holds.ensures in
    let gaps = c.the_gaps_are_those_ranges.ensures in
    let cut = c.cut_file_has_its_checksum.ensures in
    let laws : LowerLaws = record {
      sets = record { ranges = sets.range; sets = sets.union; unions = sets.ranges; differences = sets.difference; gaps = gaps.are; lie = gaps.inside };
      checksums = record { none = cut.none; more = cut.more; named = cut.named; told = cut.told };
      last = c.the_end_is_one_past_the_last.ensures.last;
      staged = c.octets_held_keep_their_value.ensures.staged;
    } in
    (step-true laws put heard ⊥ (λ f. absurd f) files m r s stored input truth (λ f. absurd f)).publishes
