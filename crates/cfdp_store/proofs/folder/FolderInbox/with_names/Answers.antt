use Rattle.std.proofs.Common.{ap, ◌∙◌}
use Rattle.cfdp_store.specs.Disk.{published_by}
use Rattle.cfdp_store.proofs.DiskLemmas.{none-yet}
use Rattle.cfdp_store.proofs.folder.FolderInbox.with_names.Goals as goal

pub returns-clause-published : goal.returns-clause-published
returns-clause-published g c = ap published_by c.new.ensures ∙ none-yet
