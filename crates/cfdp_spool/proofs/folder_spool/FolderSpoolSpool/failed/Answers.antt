use Rattle.std.proofs.Common.{[], ◌∷◌, ◌++◌, ap, refl, ◌∙◌}
use Rattle.cfdp_spool.specs.Leaving.{SpoolState, names_told}
use Rattle.cfdp_spool.specs.declared.folder_spool.place.Way.TheVariants.{Failed, Sent}
use Rattle.cfdp_spool.proofs.Leaves.{names-more, names-same}
use Rattle.cfdp_spool.proofs.folder_spool.FolderSpoolSpool.failed.Goals as goal

pub returns-clause-failed : goal.returns-clause-failed
returns-clause-failed g c =
    names-more Failed c.self.inside.queue c.leaves.new.self c.args.name.now refl c.leaves.ensures
    ∙ ap (λ (s : SpoolState). names_told Failed s.told ++ c.args.name.now ∷ []) c.self.view_is

pub returns-clause-sent : goal.returns-clause-sent
returns-clause-sent g c =
    names-same Sent Failed c.self.inside.queue c.leaves.new.self c.args.name.now refl c.leaves.ensures
    ∙ ap (λ (s : SpoolState). names_told Sent s.told) c.self.view_is
