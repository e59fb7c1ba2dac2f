-- What the program's `dump` prints.
pub mod Rows
pub mod Stepping
pub mod Told
pub mod Units
use Rattle.std.specs.Prelude.{ℕ, ◌<◌, ◌≤◌, ◌==◌, ◌||◌, is_some, List, [], ◌∷◌, length, if◌then◌else◌, Option, None, IfSome, MatchOption}
use Rattle.std.specs.Io.KnownBytes.{Keeps}
use Rattle.captures.specs.Captures.{SpellsTo, start_of}
use Rattle.captures.specs.Packets.{CaptureState, ItemText}
use Rattle.cfdp_dump.specs.declared.channel.Channel.{Channel}
use Rattle.cfdp_report.specs.declared.exit.Exit.{Exit}
use Rattle.cfdp_report.specs.declared.exit.Exit.TheVariants.{Complete, Device}
use Rattle.cfdp_report.specs.declared.exit.Fault.TheVariants.{NoMemory, TooLong, Unwritable}
use Rattle.cfdp_dump.specs.declared.dump.DumpRequest.{DumpRequest}
use Rattle.cfdp_dump.specs.Dump.Told as told
use Rattle.cfdp_dump.specs.Dump.Told.{BadHex}
use Rattle.cfdp_dump.specs.Dump.Rows.{Bad, Octets, Piece, pieces}
use Rattle.cfdp_dump.specs.Dump.Units.{TellsItem, TellsOne, TellsUnit, WritesMore, WritesRun}
use Rattle.cfdp_report.specs.Words.{onto_first}

-- the lines of a text: each ends with a line feed, which the last needs not
unfoldable pub lines : List ℕ → List (List ℕ)
lines [] = []
lines (octet ∷ rest) = if octet == 10 then [] ∷ lines rest else onto_first octet (lines rest)

-- This is shown of a piece.
abbrev pub TellsPiece : DumpRequest → List Channel → Piece → List told.Told → List Channel → Type 0
TellsPiece request channels (Octets octets) tolds after =
    TellsUnit request channels octets tolds after
TellsPiece request channels (Bad before digits) tolds after =
    TellsOne (BadHex before digits) channels tolds after

-- All of these pieces was written, after frames of these channels.
abbrev pub WritesPieces : DumpRequest → List Piece → (before after : List Channel)
    → (old new : Option (List ℕ)) → Type 0
WritesPieces request ps before after old new =
    WritesMore (TellsPiece request) request before ps after old new

-- All of a capture was shown: what it spells to its end, or to what can't be read.
pub record WritesCapture (request : DumpRequest) (start : CaptureState) (file : List ℕ)
    (old new : Option (List ℕ)) : Type 0 where
  pub items : List ItemText
  pub last : CaptureState
  pub spelled : SpellsTo start items file last []
  pub after : List Channel
  pub written : WritesRun (TellsItem (length file) request) request items after old new

-- All that the lines of a text spell was shown.
pub record WritesText (request : DumpRequest) (text : List ℕ) (old new : Option (List ℕ))
    : Type 0 where
  pub after : List Channel
  pub written : WritesRun (TellsPiece request) request
      (pieces request.by_tools None (lines text)) after old new

-- A file is read as a capture if it begins as one, otherwise as lines.
abbrev pub WritesFile : DumpRequest → (file : List ℕ) → (old new : Option (List ℕ)) → Type 0
WritesFile request file old new =
    MatchOption (start_of file) (WritesText request file old new)
    (λ start. WritesCapture request start file old new)

-- how many octets a file has at most: 64 MiB as a capture or as tools write it, otherwise 1 MiB
abbrev pub most_octets : DumpRequest → (file : List ℕ) → ℕ
most_octets request file =
    if request.by_tools || is_some (start_of file) then 67108864 else 1048576

-- A file isn't too long to be read, if it is known.
abbrev pub IsShort : DumpRequest → Option (List ℕ) → Type 0
IsShort request left = IfSome left (λ file. length file ≤ most_octets request file)

-- How a dump ends, by what the reader has left and what the writer holds before and after. Complete
-- says that all was shown. If the lines couldn't be read, or are too many, nothing is written. If a
-- line couldn't be written, or there was no memory for it, all had been read; of what was written
-- nothing is said, as no writer says what it took of a text before it failed.
abbrev pub EndsDump : DumpRequest → (left old new : Option (List ℕ)) → Exit → Type 0
EndsDump request left old new Complete = IsShort request left
    × IfSome left (λ file. WritesFile request file old new)
EndsDump request left old new (Device Unwritable) = IsShort request left
EndsDump request left old new (Device NoMemory) = IsShort request left
EndsDump request left old new (Device TooLong) =
    IfSome left (λ file. most_octets request file < length file) × Keeps old new
EndsDump request left old new (Device fault) = Keeps old new
EndsDump request left old new _ = ⊥
