use Rattle.std.proofs.Common.{◌∙◌, ap, sym, true≢false}
use Rattle.cfdp_extents.specs.Ranges.{turned, with_last}
use Rattle.cfdp_extents.proofs.Last.{dropped}
use Rattle.cfdp_extents.proofs.whole.drop_first.Goals as goal

pub returns-else-is_empty-clause-rest : goal.returns-else-is_empty-clause-rest
returns-else-is_empty-clause-rest c =
    ap (λ es. with_last (turned es) c.args.last.now) c.remove.ensures.entries
    ∙ dropped c.args.ranges.now.entries c.args.last.now c.args.first c.requires.first (λ z. let t = c.if-is_empty.ensures.1 z in true≢false (sym t))
