use Rattle.std.proofs.Common.{ap, ◌∙◌}
use Rattle.std.specs.FinMap.{insert}
use Rattle.cfdp_store.specs.Files.{listed}
use Rattle.cfdp_store.specs.declared.known.Stamp.{Stamp}
use Rattle.cfdp_store.proofs.FileLemmas.{listed-insert}
use Rattle.cfdp_store.proofs.known.Stamps.insert.Goals as goal

pub returns-clause-ok : goal.returns-clause-ok
returns-clause-ok c =
    ap (listed (λ (s : Stamp). s.len)) c.in_ok-insert.ensures.entries
    ∙ listed-insert (λ (s : Stamp). s.len) c.self.inside.stamps.entries c.args.name c.args.stamp
    ∙ ap (λ files. insert files c.args.name.items c.args.stamp.len) c.self.view_is
