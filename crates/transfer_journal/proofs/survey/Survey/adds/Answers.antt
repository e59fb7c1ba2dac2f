use Rattle.std.proofs.Common.{refl, ◌∙◌}
use Rattle.transfer_journal.proofs.Taken.{insert_key-new}
use Rattle.transfer_journal.proofs.survey.Survey.adds.Goals as goal

pub returns : goal.returns
returns c = record {
  ids = c.in_ok-insert.ensures.keys ∙ insert_key-new c.args.id c.args.self.now.ids.keys c.requires.unknown;
  transfers = c.in_ok-push.ensures.items;
  addressing = refl;
  owner = refl;
  forgotten = refl;
}
