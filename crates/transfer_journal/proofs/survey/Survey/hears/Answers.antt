use Rattle.std.proofs.Common.{◌≡◌, length, refl, sym, ◌∙◌, arith}
use Rattle.std.proofs.lemmas.List.{with_items_is}
use Rattle.transfer_journal.proofs.Taken.{hears-at}
use Rattle.transfer_journal.proofs.survey.Survey.hears.Goals as goal

pub returns-in-Some : goal.returns-in-Some
returns-in-Some c =
    let len : length c.goes_on.new.slots ≡ c.args.self.now.transfers.len = omega (arith, c.goes_on.auto.slots, c.as_mut_slice.ensures.len) in
    hears-at c.goes_on.result c.args.id c.args.record c.args.self.now _ c.in-Some.place _ c.goes_on.new.slots c.requires.aligned c.in-Some.ensures.index c.goes_on.ensures
    (cc) (with_items_is c.args.self.now.transfers c.goes_on.new.slots len) refl refl refl refl
