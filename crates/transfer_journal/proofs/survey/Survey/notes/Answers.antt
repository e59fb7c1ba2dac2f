use Rattle.std.proofs.Common.{◌≡◌, ℕ, List, Option, Some, sym, ap, ◌∙◌}
use Rattle.std.specs.Option.{option_or}
use Rattle.std.proofs.lemmas.Result.{on_ok_weaker}
use Rattle.journal_records.specs.declared.record.Owner.{Owner}
use Rattle.transfer_journal.specs.declared.survey.Survey.{Survey}
use Rattle.transfer_journal.specs.Survey.{owner_in}
use Rattle.transfer_journal.proofs.Taken.{noted-forgotten, noted-nothing}
use Rattle.transfer_journal.proofs.survey.Survey.notes.Goals as goal

with_owner : Survey → Option Owner → Survey
with_owner s owner = record s { owner = owner }

pub returns-in-Some : goal.returns-in-Some
unfolding with_owner
returns-in-Some c =
    let owner : c.or-self.result ≡ option_or (owner_in c.args.record.now) c.args.self.now.owner = c.or-self.ensures ∙ ap (λ (o : Option Owner). option_or o c.args.self.now.owner) c.owner_in.ensures in
    on_ok_weaker c.forgets.result
    (noted-forgotten c.args.record.now c.in-Some.those.0 c.as_slice.result.now c.args.self.now (record c.args.self.now { owner = c.or-self.result }) c.forgets.new.self c.requires.about
    (sym c.in-Some.ensures ∙ ap (λ (l : List (ℕ × ℕ)). Some (c.in-Some.those.0, l)) (sym c.as_slice.ensures))
    (ap (with_owner c.args.self.now) owner))
    c.forgets.ensures

pub returns-in-None : goal.returns-in-None
unfolding with_owner
returns-in-None c =
    let owner : c.or-self.result ≡ option_or (owner_in c.args.record.now) c.args.self.now.owner = c.or-self.ensures ∙ ap (λ (o : Option Owner). option_or o c.args.self.now.owner) c.owner_in.ensures in
    noted-nothing c.args.record.now c.args.self.now _ c.requires.aligned c.requires.about (sym c.in-None.ensures) (ap (with_owner c.args.self.now) owner)
