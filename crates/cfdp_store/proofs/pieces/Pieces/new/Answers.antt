use Rattle.cfdp_store.proofs.PieceLemmas.{octets_of-none}
use Rattle.cfdp_store.proofs.pieces.Pieces.new.Goals as goal

pub returns : goal.returns
returns c = octets_of-none _ c.new.ensures.items
