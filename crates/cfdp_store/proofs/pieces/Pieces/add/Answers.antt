use Rattle.std.proofs.Common.{ap, ◌∙◌}
use Rattle.std.specs.FinMap.{empty}
use Rattle.cfdp_store.specs.Staged.{written}
use Rattle.cfdp_store.specs.Pieces.{octets_of}
use Rattle.cfdp_store.proofs.PieceLemmas.{laid_on-append}
use Rattle.cfdp_store.proofs.pieces.Pieces.add.Goals as goal

pub returns-clause-ok : goal.returns-clause-ok
returns-clause-ok c =
    ap octets_of c.in_ok-push.ensures.items
    ∙ laid_on-append empty c.self.inside.pieces.items _
    ∙ (λ i. written (c.self.view_is i) c.args.offset (c.in_ok-octets.ensures.items i))
