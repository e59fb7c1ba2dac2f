-- What lines of hexadecimal digits spell: units, one in a line; or, as tools write them that show
-- octets, also one in several lines that begin with their offsets.
use Rattle.std.specs.Prelude.{ℕ, Bool, true, false, ◌+◌, ◌*◌, ◌==◌, ◌&&◌, nat_eq, nat_le, slice_index, drop, take, List, [], ◌∷◌, ◌++◌, codes, length, if◌then◌else◌, Option, Some, None, option_and_then, option_map}
use Rattle.std.specs.List.{flat_map, starts_with}
use Rattle.std.specs.Option.{option_or}
use Rattle.std.specs.Result.{result_ok}
use Rattle.hex.specs.Hex.{decode_of}
use Rattle.cfd_bits.specs.Field.{field}
use Rattle.cfdp_report.specs.Words.{parts, without_return}

-- ---- digits

-- a word without the `0x` that it may begin with
abbrev pub bare : List ℕ → List ℕ
bare word = if nat_le 2 (length word) && ((slice_index word 0 == 48) && (slice_index word 1 == 120))
    then drop 2 word else word

-- the digits of a text: its words without the spaces between
abbrev pub digits_of : List ℕ → List ℕ
digits_of text = flat_map bare (parts 32 text)

-- the octets that the hexadecimal digits of a text spell, in either case
abbrev pub hex_octets : List ℕ → Option (List ℕ)
hex_octets text = result_ok (decode_of (digits_of text))

-- ---- a line that begins with an offset

-- its offset, and its digits, which stand after so many of its octets
pub record Row : Type 0 where
  pub offset : ℕ
  pub before : ℕ
  pub digits : List ℕ

-- the number that hexadecimal digits spell, of eight octets at most
abbrev pub offset_of : List ℕ → Option ℕ
offset_of digits = option_and_then (λ octets. if nat_le (length octets) 8
    then Some (field octets 0 (8 * length octets)) else None) (result_ok (decode_of digits))

-- what stands before the first such gap in a text; all of it, if there is none
unfoldable pub up_to : (gap text : List ℕ) → List ℕ
up_to gap [] = []
up_to gap (octet ∷ rest) = if starts_with nat_eq (octet ∷ rest) gap then []
    else octet ∷ up_to gap rest

-- A line of an offset of so many digits with a mark after it, of digits up to a gap, and of more
-- that is passed over.
abbrev pub row_with : (width : ℕ) → (mark gap line : List ℕ) → Option Row
row_with width mark gap line =
    if nat_le width (length line) && starts_with nat_eq (drop width line) mark
    then option_map (λ offset. record {
      offset = offset;
      before = width + length mark;
      digits = up_to gap (drop (width + length mark) line);
    }) (offset_of (take width line)) else None

-- an offset alone, which ends what `hexdump -C` writes
abbrev pub last_row : List ℕ → Option Row
last_row line = option_map (λ offset. record { offset = offset; before = 8; digits = [] })
    (if length line == 8 then offset_of line else None)

-- A line as `xxd`, `hexdump -C` or Wireshark writes it.
abbrev pub row_of : List ℕ → Option Row
row_of line = option_or (row_with 8 (codes ": ") (codes "  ") line)
    (option_or (row_with 8 (codes "  ") (codes "|") line)
    (option_or (row_with 4 (codes "  ") (codes "   ") line) (last_row line)))

-- the same, if its offset is this one
abbrev pub row_at : (offset : ℕ) → (line : List ℕ) → Option Row
row_at offset line = option_and_then (λ row. if row.offset == offset then Some row else None)
    (row_of line)

-- ---- line after line

-- the octets of a unit; or digits that aren't pairs, which stand after so many octets of a line
pub data Piece : Type 0 where
  Octets : List ℕ → Piece
  Bad : (before : ℕ) → (digits : List ℕ) → Piece

-- What is whole with a line, in order, and the octets so far of a unit that is begun, if one is.
pub record Step : Type 0 where
  pub whole : List Piece
  pub begun : Option (List ℕ)

-- A row goes on with these octets of its unit, if its digits are pairs; if they aren't, what there
-- was of the unit ends.
abbrev pub more_of : (ended : List Piece) → (octets : List ℕ) → Row → Option (List ℕ) → Step
more_of ended octets row (Some more) = record { whole = []; begun = Some (octets ++ more) }
more_of ended octets row None = record {
  whole = ended ++ Bad row.before row.digits ∷ [];
  begun = None;
}

abbrev pub row_step : (ended : List Piece) → (octets : List ℕ) → Row → Step
row_step ended octets row = more_of ended octets row (hex_octets row.digits)

-- A line of digits alone is a unit, if they are pairs.
abbrev pub piece_of : (line : List ℕ) → Option (List ℕ) → Piece
piece_of line (Some octets) = Octets octets
piece_of line None = Bad 0 line

abbrev pub bare_line : List ℕ → Step
bare_line line = record {
  whole = piece_of line (result_ok (decode_of line)) ∷ [];
  begun = None;
}

-- As tools write it, a line that isn't pairs of digits begins a unit, if it is a row of offset 0.
abbrev pub first_of : (line : List ℕ) → Option Row → Step
first_of line None = record { whole = Bad 0 line ∷ []; begun = None }
first_of line (Some row) = row_step [] [] row

-- A line of pairs of digits is a unit.
abbrev pub alone_of : (line : List ℕ) → Option (List ℕ) → Step
alone_of line (Some octets) = record { whole = Octets octets ∷ []; begun = None }
alone_of line None = first_of line (row_at 0 line)

-- a line if no unit is begun
abbrev pub alone : List ℕ → Step
alone line = alone_of line (hex_octets line)

-- a line after the end of a unit of these octets, for which an empty one stands
abbrev pub after : (octets line : List ℕ) → Step
after octets line = if length line == 0 then record { whole = Octets octets ∷ []; begun = None }
    else record { whole = Octets octets ∷ (alone line).whole; begun = (alone line).begun }

-- If these octets of a unit are begun, a line goes on with it if it is a row whose offset is their
-- number.
abbrev pub behind_of : (octets line : List ℕ) → Option Row → Step
behind_of octets line (Some row) = row_step (Octets octets ∷ []) octets row
behind_of octets line None = after octets line

abbrev pub row_or_alone : Option (List ℕ) → List ℕ → Step
row_or_alone None line = alone line
row_or_alone (Some octets) line = behind_of octets line (row_at (length octets) line)

-- a line of digits alone, or one as tools write it, at whose end a carriage return doesn't count
abbrev pub step : (by_tools : Bool) → Option (List ℕ) → List ℕ → Step
step false begun line = bare_line line
step true begun line = row_or_alone begun (without_return line)

-- what ends with the last line
abbrev pub ended : Option (List ℕ) → List Piece
ended None = []
ended (Some octets) = Octets octets ∷ []

-- what lines spell, if this is begun
unfoldable pub pieces : (by_tools : Bool) → Option (List ℕ) → (lines : List (List ℕ)) → List Piece
pieces by_tools begun [] = ended begun
pieces by_tools begun (line ∷ rest) = (step by_tools begun line).whole
    ++ pieces by_tools (step by_tools begun line).begun rest
