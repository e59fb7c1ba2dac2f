-- Lines that wait to be written, each of which must be kept whole or lost whole.
use Rattle.std.specs.Prelude.{◌≡◌, ◌⊎◌, ◌≤◌, ◌+◌, ◌++◌, ℕ, Bool, List, Option, length, true}
use Rattle.std.specs.Io.KnownBytes.{Appends}
use Rattle.cfdp_log.specs.Log.Totals.{counted}

-- what was written so far, and what waits after that: whole lines, but that a beginning of the
-- first may be written; and how many lines were lost that nothing reports yet
pub record QueueState : Type 0 where
  pub written : List ℕ
  pub waits : List ℕ
  pub lost : ℕ

-- the most octets that wait
abbrev pub most_waiting : ℕ
most_waiting = 65536

-- `count` octets find room. After a line that was lost none do, until a line reports that.
abbrev pub HasRoom : QueueState → (count : ℕ) → Type 0
HasRoom queue count = (queue.lost ≡ 0) × (length queue.waits + count ≤ most_waiting)

-- A line waits after the others.
pub record KeepsLine (line : List ℕ) (old new : QueueState) : Type 0 where
  pub written : new.written ≡ old.written
  pub waits : new.waits ≡ old.waits ++ line
  pub lost : new.lost ≡ old.lost

-- Nothing of a line waits, and it is counted.
pub record LosesLine (old new : QueueState) : Type 0 where
  pub written : new.written ≡ old.written
  pub waits : new.waits ≡ old.waits
  pub lost : new.lost ≡ counted true old.lost

-- A line waits after the others, if it is whole and there is room for it. Otherwise it is lost.
abbrev pub KeepsOrLoses : (line : List ℕ) → (is_whole : Bool) → (old new : QueueState) → Type 0
KeepsOrLoses line is_whole old new =
    ((is_whole ≡ true) × HasRoom old (length line) × KeepsLine line old new)
    ⊎ (¬ ((is_whole ≡ true) × HasRoom old (length line)) × LosesLine old new)

-- A line that says how many were lost waits after the others, and they are counted again.
pub record TellsLost (line : List ℕ) (old new : QueueState) : Type 0 where
  pub written : new.written ≡ old.written
  pub waits : new.waits ≡ old.waits ++ line
  pub lost : new.lost ≡ 0

-- What was written is what waited first, and the rest waits.
pub record WritesFirst (before after : Option (List ℕ)) (old new : QueueState) : Type 0 where
  pub first : List ℕ
  pub waited : old.waits ≡ first ++ new.waits
  pub written : Appends before after first
  pub noted : new.written ≡ old.written ++ first
  pub lost : new.lost ≡ old.lost

-- what was written and what waits, end to end
abbrev pub logged_by : QueueState → List ℕ
logged_by queue = queue.written ++ queue.waits

-- Nothing of that is changed, and no line is lost.
pub record StaysLogged (old new : QueueState) : Type 0 where
  pub same : logged_by new ≡ logged_by old
  pub lost : new.lost ≡ old.lost
