use Rattle.std.proofs.Common.{ap, ◌∙◌}
use Rattle.cfdp_store.specs.Shown.{Seen, seen_by}
use Rattle.cfdp_store.proofs.ShownLemmas.{nothing-yet}
use Rattle.cfdp_store.proofs.folder_outbox.FolderOutbox.with_names.Goals as goal

pub returns-clause-files : goal.returns-clause-files
returns-clause-files g c =
    let e = c.new-2.result.expected.value in
    ap (λ (s : Seen). s.files) (ap (seen_by e) c.new-2.ensures.shown ∙ nothing-yet e)

pub returns-clause-stands : goal.returns-clause-stands
returns-clause-stands g c =
    let e = c.new-2.result.expected.value in
    ap (λ (s : Seen). s.stands) (ap (seen_by e) c.new-2.ensures.shown ∙ nothing-yet e)
