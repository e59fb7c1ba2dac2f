use Rattle.std.proofs.Common.{◌≡◌, take}
use Rattle.std.specs.FinMap.{get}
use Rattle.cfdp_store.specs.Pieces.{octets_of}
use Rattle.cfdp_store.proofs.pieces.Pieces.octet_at.Given as goal

abbrev pub invariant-loop-piece : goal.invariant-loop-piece
invariant-loop-piece l = l.found ≡ get (octets_of (take l.piece-index l.piece-items)) l.at
