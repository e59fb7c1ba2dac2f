-- Lines that are taken from what came.
use Rattle.std.specs.Prelude.{◌≡◌, ◌≢◌, ◌∷◌, ◌++◌, ◌<◌, ◌≤◌, ◌⊎◌, ℕ, List, [], All, length, Option, Some, None, Result, Ok, Err, String, string_bytes, ⊤}
use Rattle.std.specs.Str.{IsUtf8}
use Rattle.std.specs.declared.alloc.Global.{Global}
use Rattle.cfdp_console.specs.LastLines.{HasNoEnd}
use Rattle.cfdp_control.specs.declared.line.LineFault.{LineFault}
use Rattle.cfdp_control.specs.declared.line.LineFault.TheVariants as fault
use Rattle.cfdp_control.specs.declared.line_buffer.LineBuffer.{LineBuffer}
use Rattle.cfdp_control.specs.declared.line_buffer.Taken.{Taken}
use Rattle.cfdp_control.specs.declared.line_buffer.Taken.TheVariants.{Line, TooLong}

-- This is the first line of these octets, and `after` is what follows its line feed.
pub record IsFirst (before line after : List ℕ) : Type 0 where
  pub is : before ≡ line ++ 10 ∷ after
  pub ends : HasNoEnd line

-- What was taken of these octets, and what is left: the first line, if a line feed stands among
-- them; nothing, if they may become a line; and otherwise they are dropped, as more than 4,096 are.
abbrev pub Takes : List ℕ → Option Taken → List ℕ → Type 0
Takes before (Some (Line line)) after = IsFirst before line.items after
Takes before (Some TooLong) after = (after ≡ []) × HasNoEnd before × (4096 < length before)
Takes before None after = (after ≡ before) × HasNoEnd before × (length before ≤ 4096)

-- how the text of a line follows from what was taken, and why it is none of an operator
abbrev pub IsTextOf : Taken → Result (String Global) LineFault → Type 0
IsTextOf (Line line) (Ok text) = string_bytes text ≡ line.items
IsTextOf (Line line) (Err fault.NotText) = ¬ (IsUtf8 line.items)
IsTextOf (Line line) (Err fault.OfWeb) = ⊤
IsTextOf (Line line) (Err _) = ⊥
IsTextOf TooLong (Ok text) = ⊥
IsTextOf TooLong (Err why) = why ≡ fault.TooLong

-- Why the first line of these octets is none of an operator, and what is left of them: what follows
-- it, if it is no text; that or nothing, if it is of a web client; and otherwise nothing.
abbrev pub IsRefused : List ℕ → LineFault → List ℕ → Type 0
IsRefused before fault.TooLong after = (after ≡ []) × HasNoEnd before × (4096 < length before)
IsRefused before fault.NotText after = (line : List ℕ) × IsFirst before line after
    × ¬ (IsUtf8 line)
IsRefused before fault.OfWeb after = (line : List ℕ) × (rest : List ℕ) × IsFirst before line rest
    × ((after ≡ rest) ⊎ (after ≡ []))
IsRefused before fault.NoEnd after = (after ≡ []) × HasNoEnd before × (before ≢ [])
IsRefused before fault.NoMemory after = after ≡ []

-- With a line its line feed is gone.
abbrev pub GoesWith : List ℕ → Option Taken → List ℕ → Type 0
GoesWith old (Some (Line line)) new = new ≡ old ++ line.items ++ 10 ∷ []
GoesWith old _ new = ⊤

-- ---- a source of lines: the octets that came over it and are gone, and those that wait

abbrev pub waiting_in : LineBuffer → List ℕ
waiting_in lines = lines.octets.items

-- all octets that came, in their order
abbrev pub came_to : LineBuffer → List ℕ
came_to lines = lines.gone ++ waiting_in lines

-- What is given of a source: the text of the first line that waits, which is gone then with its
-- line feed; or why that is none of an operator; or nothing, and all waits. So each line that came
-- is given once at most, in its turn, and none that didn't come.
abbrev pub Gives : LineBuffer → Option (Result (String Global) LineFault) → LineBuffer → Type 0
Gives old None new = new ≡ old
Gives old (Some (Ok text)) new = IsFirst (waiting_in old) (string_bytes text) (waiting_in new)
    × (new.gone ≡ old.gone ++ string_bytes text ++ 10 ∷ [])
Gives old (Some (Err why)) new = IsRefused (waiting_in old) why (waiting_in new)
    × (came_to new ≡ came_to old)
