use Rattle.std.proofs.Common.{ap, ◌∙◌}
use Rattle.std.specs.Prelude.{slice_get}
use Rattle.std.specs.FinMap.{entries}
use Rattle.cfdp_c.proofs.Listed.{file_lent}
use Rattle.cfdp_c.proofs.files.file_at.Goals as goal

pub returns : goal.returns
returns c =
    file_lent c.entry_at.result c.entries.result.now.entries c.args.place c.entry_at.ensures.ordered c.entry_at.ensures.at
    ∙ ap (λ m. slice_get (entries m) c.args.place) c.entries.ensures
