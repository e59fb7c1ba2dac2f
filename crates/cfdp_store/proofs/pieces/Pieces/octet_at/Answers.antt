use Rattle.std.proofs.Common.{sym, ap, ◌∙◌}
use Rattle.std.specs.FinMap.{get}
use Rattle.std.proofs.lemmas.List.{take_all}
use Rattle.cfdp_store.specs.Pieces.{octets_of}
use Rattle.cfdp_store.proofs.PieceLemmas.{octets-first, octets-next}
use Rattle.cfdp_store.proofs.pieces.Pieces.octet_at.Goals as goal
use Rattle.cfdp_store.proofs.pieces.Pieces.octet_at.Goals.{in-Some, in_default}

pub loop-piece-init : goal.loop-piece-init
loop-piece-init c = octets-first c.deref-piece-items.result.now c.args.at

pub loop-piece-preserved : goal.loop-piece-preserved
loop-piece-preserved c =
    let next = ap (λ m. get m c.args.at) (octets-next c.deref-piece-items.result.now c.loop-piece.piece-index c.piece-item.result c.loop-piece-test.true c.piece-item.is) in
    elim c.match-octet_in.branch [
      | in-Some w ↦ w.found-is ∙ sym (w.in-Some.ensures.has _) ∙ sym next
      | in_default w ↦ w.found-is ∙ c.loop-piece.invariant ∙ sym (w.in_default.ensures.lacks _) ∙ sym next
    ]

pub returns : goal.returns
returns c =
    c.loop-piece.invariant
    ∙ ap (λ items. get (octets_of items) c.args.at) (take_all _ _ c.loop-piece-test.false ∙ c.deref-piece-items.ensures.value)
    ∙ ap (λ m. get m c.args.at) c.self.view_is
