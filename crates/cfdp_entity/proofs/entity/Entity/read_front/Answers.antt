use Rattle.std.proofs.Common.{sym, subst}
use Rattle.cfdp_sender.specs.Does.{HasFileWhile}
use Rattle.cfdp_sender.proofs.OwnFile.{while-reread}
use Rattle.cfdp_entity.specs.Entity.{Counted}
use Rattle.cfdp_entity.proofs.Restored.{on-ok}
use Rattle.cfdp_entity.proofs.entity.Entity.read_front.Goals as goal

pub returns-clause-file : goal.returns-clause-file
returns-clause-file g c =
    let kept = c.args.kept.now in
    on-ok c.read_sums.result (while-reread kept.phase kept.transfer.source kept.transfer.size c.read_sums.ensures.shows
    (subst (λ (v : Counted). HasFileWhile kept.phase v.state.table.sources kept.transfer.source kept.transfer.size) (sym c.check_front.ensures.counted) c.in_ok-check_front.ensures.file))
