-- The parts of a text, and the words of a line.
use Rattle.std.specs.Prelude.{ℕ, ◌==◌, List, [], ◌∷◌, if◌then◌else◌, Option, Some, None, option_map, option_and_then}
use Rattle.std.specs.Option.{option_map_or}
use Rattle.std.specs.List.{join_with_byte}
use Rattle.std.specs.Io.BufRead.{strip_last}
use Rattle.cfdp_report.specs.declared.words.Words.{Words}

-- an octet before the first part
unfoldable pub onto_first : ℕ → List (List ℕ) → List (List ℕ)
onto_first octet [] = (octet ∷ []) ∷ []
onto_first octet (part ∷ rest) = (octet ∷ part) ∷ rest

-- the parts of a text between the separators in it, which are one fewer
unfoldable pub parts : ℕ → List ℕ → List (List ℕ)
parts separator [] = [] ∷ []
parts separator (octet ∷ rest) = if octet == separator then [] ∷ parts separator rest
    else onto_first octet (parts separator rest)

-- a line without the carriage return that ends it, if one does
abbrev pub without_return : List ℕ → List ℕ
without_return line = strip_last 13 line

-- The words of a line stand between its spaces. One is empty if two spaces stand together, or one
-- begins or ends the line.
abbrev pub words_of : List ℕ → List (List ℕ)
words_of line = parts 32 line

-- the words that are left to read
abbrev pub left : Words → List (List ℕ)
left words = option_map_or (λ rest. words_of rest.now) words.rest []

-- the next word, and those after it; none if it is missing or empty
abbrev pub next_word : List (List ℕ) → Option (List ℕ × List (List ℕ))
next_word [] = None
next_word ([] ∷ rest) = None
next_word ((octet ∷ word) ∷ rest) = Some (octet ∷ word, rest)

abbrev pub nothing_of : List (List ℕ) → Option (Unit {0})
nothing_of [] = Some tt
nothing_of (word ∷ rest) = None

-- ---- words, if there are exactly so many and none is empty

abbrev pub one_of : List (List ℕ) → Option (List ℕ)
one_of words = option_and_then (λ w. option_map (λ _. w.0) (nothing_of w.1)) (next_word words)

abbrev pub two_of : List (List ℕ) → Option (List ℕ × List ℕ)
two_of words = option_and_then (λ w. option_map (λ second. (w.0, second)) (one_of w.1))
    (next_word words)

abbrev pub three_of : List (List ℕ) → Option (List ℕ × List ℕ × List ℕ)
three_of words = option_and_then (λ w. option_map (λ more. (w.0, more.0, more.1)) (two_of w.1))
    (next_word words)

abbrev pub four_of : List (List ℕ) → Option (List ℕ × List ℕ × List ℕ × List ℕ)
four_of words = option_and_then (λ w. option_map (λ more. (w.0, more.0, more.1, more.2))
    (three_of w.1)) (next_word words)

-- ---- a text: the rest of a line, spaces and all, if it has an octet at least

abbrev pub some_octets : List ℕ → Option (List ℕ)
some_octets [] = None
some_octets (octet ∷ rest) = Some (octet ∷ rest)

abbrev pub text_of : List (List ℕ) → Option (List ℕ)
text_of words = some_octets (join_with_byte 32 words)
