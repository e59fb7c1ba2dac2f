use Rattle.std.proofs.Common.{sym, ap, ◌∙◌, Some, arith}
use Rattle.cfdp_store.proofs.Octets.{get-written_below, get-written_behind, get-written_within}
use Rattle.cfdp_store.proofs.pieces.octet_in.Goals as goal

pub returns-then-at-piece-clause-lacks : goal.returns-then-at-piece-clause-lacks
returns-then-at-piece-clause-lacks c = λ m. get-written_below m _ _ c.args.at c.if-at-piece.true

pub returns-then-len-index-clause-lacks : goal.returns-then-len-index-clause-lacks
returns-then-len-index-clause-lacks c = λ m.
    get-written_behind m c.args.piece.now.offset c.args.piece.now.octets.items c.args.at (omega (arith, c.if-at-piece.false, c.if-len-index.true, c.len.ensures, c.args.piece.now.octets.ok.0))

pub returns-clause-has : goal.returns-clause-has
returns-clause-has c = λ m.
    get-written_within m c.args.piece.now.offset c.args.piece.now.octets.items c.args.at c.index.result.now c.if-at-piece.false
    (omega (arith, c.if-at-piece.false, c.if-len-index.false, c.len.ensures, c.args.piece.now.octets.ok.0))
    ∙ ap Some (sym c.index.ensures)
