use Rattle.std.proofs.Common.{ap, ◌∙◌}
use Rattle.std.specs.FinMap.{remove}
use Rattle.cfdp_store.specs.declared.known.Stamp.{Stamp}
use Rattle.cfdp_store.proofs.FileLemmas.{listed-remove}
use Rattle.cfdp_store.proofs.known.Stamps.remove.Goals as goal

pub returns : goal.returns
returns c =
    listed-remove (λ (s : Stamp). s.len) c.self.inside.stamps.entries _ c.args.name.now c.remove.ensures.entries c.remove.ensures.updates.1
    ∙ ap (λ files. remove files c.args.name.now) c.self.view_is
