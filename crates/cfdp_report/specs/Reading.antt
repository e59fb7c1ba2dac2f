-- How reading to the end may fail.
use Rattle.std.specs.Prelude.{◌<◌, ℕ, List, Option, IfSome, length, ⊤}
use Rattle.cfdp_report.specs.declared.exit.Fault.{Fault}
use Rattle.cfdp_report.specs.declared.exit.Fault.TheVariants.{Unreadable, TooLong, Unwritable, NoMemoryAtStart, NoMemory}

-- Reading ended with this fault, if a reader had this left: a read failed, there was no memory, or
-- there was too much of it.
abbrev pub EndsReadingUpTo : (most : ℕ) → Fault → Option (List ℕ) → Type 0
EndsReadingUpTo most (Unreadable kind) left = ⊤
EndsReadingUpTo most NoMemoryAtStart left = ⊤
EndsReadingUpTo most TooLong left = IfSome left (λ text. most < length text)
EndsReadingUpTo most NoMemory left = ⊥
EndsReadingUpTo most Unwritable left = ⊥
