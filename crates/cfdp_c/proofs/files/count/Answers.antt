use Rattle.std.proofs.Common.{ap, length, ◌∙◌}
use Rattle.std.specs.FinMap.{entries}
use Rattle.cfdp_c.proofs.Listed.{count_listed}
use Rattle.cfdp_c.proofs.files.count.Goals as goal

pub returns : goal.returns
returns c =
    c.entry_count.ensures.count
    ∙ count_listed c.entries.result.now.entries c.entry_count.ensures.ordered
    ∙ ap (λ m. length (entries m)) c.entries.ensures
