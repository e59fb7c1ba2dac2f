use Rattle.std.proofs.Common.{ap, sym, ◌∙◌}
use Rattle.std.specs.FinMap.{entries}
use Rattle.cfdp_script.proofs.Reports.{entries_listed}
use Rattle.cfdp_script.proofs.script.report.write_inbox.Goals as goal

pub returns : goal.returns
returns g c =
    let listed = ap entries (sym c.entries.ensures) ∙ entries_listed c.entries.result.now.entries c.write_files.ensures.ordered in
    rw listed c.write_files.ensures.written
