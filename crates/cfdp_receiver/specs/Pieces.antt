-- The octets of file data that aren't held, as pieces, if some are held already.
use Rattle.std.specs.Prelude.{ℕ, ◌+◌, ◌-◌, List, length, take, drop, fold, map}
use Rattle.cfdp_directives.specs.Pdu.Checksum.{Piece}
use Rattle.cfdp_extents.specs.Offsets.{Offsets}
use Rattle.cfdp_extents.specs.Terms.{gaps_of}
use Rattle.cfdp_store.specs.Staged.{OctetMap, written}

-- of file data from an offset on, the octets in a range
abbrev pub piece_in : ℕ → List ℕ → ℕ × ℕ → Piece
piece_in offset bytes r =
    record { offset = r.0; bytes = take (r.1 - r.0) (drop (r.0 - offset) bytes) }

-- of file data from an offset on, those in each of these ranges
abbrev pub pieces_in : ℕ → List ℕ → List (ℕ × ℕ) → List Piece
pieces_in offset bytes ranges = map (piece_in offset bytes) ranges

-- of file data from an offset on, the octets that aren't held: one piece for each gap, ascending
abbrev pub new_pieces : Offsets → ℕ → List ℕ → List Piece
new_pieces held offset bytes =
    pieces_in offset bytes (gaps_of held offset (offset + length bytes))

-- what is staged once a piece was written
abbrev pub with_piece : OctetMap → Piece → OctetMap
with_piece m p = written m p.offset p.bytes

-- what is staged once these pieces were written, in this order
abbrev pub staged_with : OctetMap → List Piece → OctetMap
staged_with m pieces = fold with_piece m pieces
