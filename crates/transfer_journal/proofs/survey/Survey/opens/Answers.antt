use Rattle.transfer_journal.proofs.Taken.{hears-new, hears-none}
use Rattle.transfer_journal.proofs.survey.Survey.opens.Goals as goal

pub returns-in-Some : goal.returns-in-Some
returns-in-Some c =
    hears-new c.adds.result c.args.id c.args.record c.in-Some.end c.args.self.now c.adds.new.self c.requires.aligned c.requires.unknown c.in-Some.ensures c.adds.ensures

pub returns-in-None : goal.returns-in-None
returns-in-None c = hears-none c.args.id c.args.record c.args.self.now c.requires.aligned c.requires.unknown c.in-None.ensures
