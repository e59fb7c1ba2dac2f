use Rattle.std.proofs.Common.{sym, ap, ◌∙◌}
use Rattle.std.specs.FinMap.{get, remove}
use Rattle.cfdp_store.proofs.FileLemmas.{get-files_of, files_of-remove, octets_at}
use Rattle.cfdp_store.proofs.files.Files.remove.Goals as goal

pub returns-clause-octets : goal.returns-clause-octets
returns-clause-octets c =
    ap octets_at c.remove.ensures.value
    ∙ sym (get-files_of c.self.inside.files.entries c.args.name.now)
    ∙ ap (λ files. get files c.args.name.now) c.self.view_is

pub returns-clause-files : goal.returns-clause-files
returns-clause-files c =
    files_of-remove c.self.inside.files.entries _ c.args.name.now c.remove.ensures.entries c.remove.ensures.updates.1
    ∙ ap (λ files. remove files c.args.name.now) c.self.view_is
