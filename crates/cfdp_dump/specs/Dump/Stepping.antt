-- What the program's values of a dump's lines say.
use Rattle.std.specs.Prelude.{List, [], ◌∷◌, ◌++◌, Option, Some, None, option_map}
use Rattle.std.specs.declared.alloc.Global.{Global}
use Rattle.std.specs.Prelude.{ℕ, Vec}
use Rattle.cfdp_dump.specs.Dump.Rows as spelled
use Rattle.cfdp_dump.specs.declared.dump.rows.Row.{Row}
use Rattle.cfdp_dump.specs.declared.dump.step.Piece.{Piece}
use Rattle.cfdp_dump.specs.declared.dump.step.Piece.TheVariants.{Octets, Bad}
use Rattle.cfdp_dump.specs.declared.dump.step.Step.{Step}

abbrev pub row_text : Row → spelled.Row
row_text row = record { offset = row.offset; before = row.before; digits = row.digits.now }

-- the octets of a unit that has ended, if one has
abbrev pub ended_pieces : Option (Vec ℕ Global) → List spelled.Piece
ended_pieces None = []
ended_pieces (Some octets) = spelled.Octets octets.items ∷ []

-- what a line is, if it is no row
abbrev pub piece_texts : Option Piece → List spelled.Piece
piece_texts None = []
piece_texts (Some (Octets octets)) = spelled.Octets octets.items ∷ []
piece_texts (Some (Bad before digits)) = spelled.Bad before digits.now ∷ []

abbrev pub step_text : Step → spelled.Step
step_text step = record {
  whole = ended_pieces step.ended ++ piece_texts step.piece;
  begun = option_map (λ octets. octets.items) step.begun;
}
