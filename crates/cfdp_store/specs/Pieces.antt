-- Proof-only: staged octets kept as the pieces in which they came.
use Rattle.std.specs.Prelude.{List, [], ◌∷◌}
use Rattle.std.specs.FinMap.{empty}
use Rattle.cfdp_store.specs.declared.pieces.Piece.{Piece}
use Rattle.cfdp_store.specs.Staged.{OctetMap, written}

-- what stands after these pieces, the oldest first, are written over some octets
unfoldable pub laid_on : OctetMap → List Piece → OctetMap
laid_on m [] = m
laid_on m (p ∷ ps) = laid_on (written m p.offset p.octets.items) ps

-- the octets that these pieces leave
abbrev pub octets_of : List Piece → OctetMap
octets_of pieces = laid_on empty pieces
