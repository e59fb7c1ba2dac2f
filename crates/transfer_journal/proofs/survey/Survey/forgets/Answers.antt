use Rattle.std.proofs.Common.{◌≡◌, length, refl, arith}
use Rattle.std.proofs.lemmas.List.{with_items_is}
use Rattle.transfer_journal.proofs.Taken.{forgets-all}
use Rattle.transfer_journal.proofs.survey.Survey.forgets.Goals as goal

pub returns : goal.returns
returns c =
    let len : length c.drop_those.new.slots ≡ c.args.self.now.transfers.len = omega (arith, c.drop_those.auto.slots, c.as_mut_slice-slots.ensures.len) in
    forgets-all c.args.source c.args.ranges.now _ _ c.drop_those.new.slots c.args.self.now _ c.requires.aligned c.drop_those.ensures c.as_slice.ensures.keys
    (cc) (with_items_is c.args.self.now.transfers c.drop_those.new.slots len) refl refl refl c.in_ok-push_ranges.ensures
