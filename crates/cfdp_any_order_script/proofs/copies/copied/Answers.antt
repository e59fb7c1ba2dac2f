use Rattle.std.proofs.Common.{◌∙◌}
use Rattle.cfdp_any_order_script.proofs.SameEntries.{same_files}
use Rattle.cfdp_any_order_script.proofs.copies.copied.Goals as goal

pub returns : goal.returns
returns c = c.from_map.ensures ∙ (same_files _ _ c.in_ok-entries.ensures.cases ∙ c.entries.ensures)
