-- How much a script asks for, and how much it may ask for here.
use Rattle.std.specs.Prelude.{◌≡◌, ◌<◌, ◌≤◌, ◌+◌, ◌*◌, ℕ, List, codes, length, if◌then◌else◌, option_and_then, sum_by}
use Rattle.std.specs.Option.{option_map_or}
use Rattle.std.specs.Str.{bytes_eq}
use Rattle.cfdp_report.specs.Numbers.{number_of}
use Rattle.cfdp_report.specs.Words.{four_of, next_word, parts, words_of}
use Rattle.cfdp_play.specs.declared.load.Load.{Load}
use Rattle.cfdp_play.specs.declared.load.TooMuch.{TooMuch}
use Rattle.cfdp_play.specs.declared.load.TooMuch.TheVariants as too_many

abbrev pub lines_of : List ℕ → List (List ℕ)
lines_of text = parts 10 text

-- the octets that a file has by the words after `fill`
abbrev pub filled_by : List (List ℕ) → ℕ
filled_by words = option_map_or (λ count. count)
    (option_and_then (λ all. number_of all.2) (four_of words)) 0

-- the octets that a line gives a file, whose first word and the words after it are these
abbrev pub octets_for : List ℕ → List (List ℕ) → List ℕ → ℕ
octets_for verb behind line = if bytes_eq verb (codes "fill") then filled_by behind
    else (if bytes_eq verb (codes "file") then length line else 0)

-- the octets that a line gives a file: those that `fill` says, and for `file` as many as the line
unfoldable pub octets_by : List ℕ → ℕ
octets_by line = option_map_or (λ found. octets_for found.0 found.1 line)
    (next_word (words_of line)) 0

-- how many puts a line is
unfoldable pub puts_by : List ℕ → ℕ
puts_by line = option_map_or (λ found. if bytes_eq found.0 (codes "put") then 1 else 0)
    (next_word (words_of line)) 0

abbrev pub octets_in : List (List ℕ) → ℕ
octets_in lines = sum_by octets_by lines

abbrev pub puts_in : List (List ℕ) → ℕ
puts_in lines = sum_by puts_by lines

-- these lines ask for too much
abbrev pub AreTooMany : TooMuch → List (List ℕ) → Type 0
AreTooMany too_many.Lines lines = 2000 < length lines
AreTooMany too_many.Octets lines = 262144 < octets_in lines
AreTooMany too_many.Puts lines = 64 < puts_in lines
AreTooMany too_many.Sent lines = 1048576 < octets_in lines * puts_in lines

-- a script of these lines is run here
abbrev pub AreFewEnough : List (List ℕ) → Type 0
AreFewEnough lines = (why : TooMuch) → ¬ AreTooMany why lines

-- ---- lines one by one

-- what was asked for so far is within the bounds
pub record IsWithin (load : Load) : Type 0 where
  pub lines : load.lines ≤ 2000
  pub octets : load.octets ≤ 262144
  pub puts : load.puts ≤ 64

-- with this line as well
pub record Takes (old : Load) (line : List ℕ) (new : Load) : Type 0 where
  pub lines : new.lines ≡ old.lines + 1
  pub octets : new.octets ≡ old.octets + octets_by line
  pub puts : new.puts ≡ old.puts + puts_by line

-- with this line there would be too much of this
abbrev pub Exceeds : TooMuch → Load → List ℕ → Type 0
Exceeds too_many.Lines load line = 2000 < load.lines + 1
Exceeds too_many.Octets load line = 262144 < load.octets + octets_by line
Exceeds too_many.Puts load line = 64 < load.puts + puts_by line
Exceeds too_many.Sent load line = ⊥
