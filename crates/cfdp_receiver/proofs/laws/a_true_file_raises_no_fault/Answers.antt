use Rattle.cfdp_receiver.specs.Sound.{IsReceivable}
use Rattle.cfdp_receiver.proofs.SoundSteps.{LowerLaws}
use Rattle.cfdp_receiver.proofs.SoundHears.{step-true}
use Rattle.cfdp_receiver.proofs.SoundLaws.{sum-whole}
use Rattle.cfdp_receiver.proofs.laws.a_true_file_raises_no_fault.Goals as goal

pub returns-clause-sum : goal.returns-clause-sum
returns-clause-sum c = sum-whole (record { none = c.cut_file_has_its_checksum.ensures.none; more = c.cut_file_has_its_checksum.ensures.more; named = c.cut_file_has_its_checksum.ensures.named; told = c.cut_file_has_its_checksum.ensures.told })

pub returns-clause-none : goal.returns-clause-none
returns-clause-none c put heard stored input m files r able truth begins s =
    let sets = c.a_set_is_what_it_holds.ensures in
    let gaps = c.the_gaps_are_those_ranges.ensures in
    let cut = c.cut_file_has_its_checksum.ensures in
    let laws : LowerLaws = record {
      sets = record { ranges = sets.range; sets = sets.union; unions = sets.ranges; differences = sets.difference; gaps = gaps.are; lie = gaps.inside };
      checksums = record { none = cut.none; more = cut.more; named = cut.named; told = cut.told };
      last = c.the_end_is_one_past_the_last.ensures.last;
      staged = c.octets_held_keep_their_value.ensures.staged;
    } in
    (step-true laws put heard (IsReceivable put) (λ f. f) files m r s stored input truth (λ _. begins)).faultless able
