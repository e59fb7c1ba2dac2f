use Rattle.std.proofs.Common.{ap, ◌∙◌}
use Rattle.std.specs.FinMap.{insert}
use Rattle.cfdp_store.specs.Files.{files_of}
use Rattle.cfdp_store.proofs.FileLemmas.{files_of-insert}
use Rattle.cfdp_store.proofs.files.Files.insert.Goals as goal

pub returns-clause-ok : goal.returns-clause-ok
returns-clause-ok c =
    ap files_of c.in_ok-insert.ensures.entries
    ∙ files_of-insert c.self.inside.files.entries c.args.name c.args.octets
    ∙ ap (λ files. insert files c.args.name.items c.args.octets.items) c.self.view_is
