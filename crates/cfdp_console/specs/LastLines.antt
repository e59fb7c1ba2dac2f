-- The last lines of a log, as the console shows them.
use Rattle.std.specs.Prelude.{◌≡◌, ◌≢◌, ◌⊎◌, ◌<◌, ◌≤◌, ◌+◌, ◌-◌, ◌==◌, ◌∷◌, ◌++◌, ℕ, Bool, true, List, [], All, AllPairs, codes, count_by, drop, length, take, string_bytes}
use Rattle.std.specs.Str.{IsUtf8}
use Rattle.cfdp_console.specs.declared.log_lines.LogLine.{LogLine}

-- how many lines end among these octets
abbrev pub ends_in : List ℕ → ℕ
ends_in octets = count_by (λ octet. octet == 10) octets

-- No octet of it is a line feed.
abbrev pub HasNoEnd : List ℕ → Type 0
HasNoEnd octets = All (λ octet. octet ≢ 10) octets

-- These are whole lines: the last octet, if there is one, is a line feed.
abbrev pub AreWhole : List ℕ → Type 0
AreWhole octets = (octets ≡ []) ⊎ ((front : List ℕ) × (octets ≡ front ++ 10 ∷ []))

-- This is the line of that number among the octets that came, without its line feed.
pub record IsLine (came : List ℕ) (number : ℕ) (line : List ℕ) : Type 0 where
  pub before : List ℕ
  pub after : List ℕ
  pub is : came ≡ before ++ line ++ 10 ∷ after
  pub counted : number ≡ ends_in before + 1
  pub starts : AreWhole before
  pub ends : HasNoEnd line

-- what is shown of a line
abbrev pub kept_of : List ℕ → List ℕ
kept_of line = take 4096 line

-- The text of it is shown, or that it has none.
abbrev pub IsTold : List ℕ → List ℕ → Type 0
IsTold octets text = (text ≡ octets)
    ⊎ (¬ (IsUtf8 octets) × (text ≡ codes "(a line that is not valid UTF-8)"))

-- The line of its number is shown, as it came.
abbrev pub ShowsLine : (came : List ℕ) → LogLine → Type 0
ShowsLine came shown = (line : List ℕ) × IsLine came shown.number line
    × IsTold (kept_of line) (string_bytes shown.text)

abbrev pub IsEarlier : LogLine → LogLine → Type 0
IsEarlier a b = a.number < b.number

-- Of the octets that came, so many lines are whole. Each was shown, as it came and in its order, or
-- was left out for lack of memory.
pub record ShowsLines (came : List ℕ) (count : ℕ) (shown : List LogLine) (left_out : List ℕ) : Type 0
  where
    pub as_they_came : All (ShowsLine came) shown
    pub in_order : AllPairs IsEarlier shown
    pub counted : All (λ line. line.number ≤ count) shown
    pub all : length shown + length left_out ≡ count

-- What came are so many whole lines, and the beginning of one, of which this is kept.
pub record HasBegun (came : List ℕ) (count : ℕ) (has_all : Bool) (begun : List ℕ) : Type 0 where
  pub whole : List ℕ
  pub line : List ℕ
  pub is : came ≡ whole ++ line
  pub lines : count ≡ ends_in whole
  pub starts : AreWhole whole
  pub ends : HasNoEnd line
  pub kept : has_all ≡ true → begun ≡ kept_of line

-- With this octet all of the line so far is kept, as far as it is shown.
abbrev pub KeepsOctet : (octet : ℕ) → (has_all : Bool) → (old new : List ℕ) → Type 0
KeepsOctet octet has_all old new = (has_all ≡ true)
    × (length old ≤ 4096 → new ≡ kept_of (old ++ octet ∷ []))

-- of the lines that were shown the last thousand, or all if they are fewer
abbrev pub last_of : List LogLine → List LogLine
last_of shown = drop (length shown - 1000) shown

-- the lines that were shown, all of them and the last, and the numbers of those left out
pub record LastState : Type 0 where
  pub shown : List LogLine
  pub lines : List LogLine
  pub left_out : List ℕ

-- A line of this number and these octets is shown next.
pub record ShowsNext (number : ℕ) (octets : List ℕ) (old new : List LogLine) : Type 0 where
  pub line : LogLine
  pub is : new ≡ old ++ line ∷ []
  pub numbered : line.number ≡ number
  pub text : IsTold octets (string_bytes line.text)

-- It is shown, if all of it was kept, or left out.
abbrev pub ShowsOrLeaves : (number : ℕ) → (octets : List ℕ) → (has_all : Bool)
    → (old new : LastState) → Type 0
ShowsOrLeaves number octets has_all old new =
    ((has_all ≡ true) × ShowsNext number octets old.shown new.shown
    × (new.left_out ≡ old.left_out))
    ⊎ ((new.shown ≡ old.shown) × (new.left_out ≡ old.left_out ++ number ∷ []))

-- What clauses see of the list: the octets of the log that came, how many lines ended among them,
-- and the last lines.
pub record LinesState : Type 0 where
  pub came : List ℕ
  pub count : ℕ
  pub lines : List LogLine

-- The lines are the last ones that were shown of all that came.
pub record ShowsLast (state : LinesState) : Type 0 where
  pub shown : List LogLine
  pub left_out : List ℕ
  pub shows : ShowsLines state.came state.count shown left_out
  pub last : state.lines ≡ last_of shown
