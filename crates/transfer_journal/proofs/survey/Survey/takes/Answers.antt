use Rattle.std.proofs.Common.{sym}
use Rattle.std.proofs.lemmas.Result.{on_ok_weaker}
use Rattle.transfer_journal.proofs.Taken.{heard-taken}
use Rattle.transfer_journal.proofs.survey.Survey.takes.Goals as goal

pub returns-in-Some : goal.returns-in-Some
returns-in-Some c =
    on_ok_weaker c.hears.result (heard-taken c.in-Some.id c.args.record c.args.self.now c.hears.new.self (sym c.in-Some.ensures)) c.hears.ensures
