-- A station with its stores in memory, or with both in folders.
use Rattle.std.specs.Prelude.{◌≡◌, ℕ, Bool, true, false}
use Rattle.cfdp_station.specs.Station.{StationState, station_lent}
use Rattle.cfdp_c.specs.Codes.{in_folders}
use Rattle.cfdp_c.specs.declared.held.AnyStation.{AnyStation}
use Rattle.cfdp_c.specs.declared.held.AnyStation.TheVariants.{Memory, Folders}
use Rattle.cfdp_c.specs.declared.held.Resumption.{Resumption}

-- what it is, wherever its files are
abbrev pub state_of : AnyStation → StationState
state_of (Memory s) = s
state_of (Folders s) = s

abbrev pub has_folders : AnyStation → Bool
has_folders (Memory s) = false
has_folders (Folders s) = true

-- what became of the transactions of a journal, if there was none
abbrev pub none_resumed : Resumption
none_resumed = record { resumed = 0; lost = 0; was_damaged = false }

-- A call that is of files in memory did this; if the files are in folders, it says so, and
-- leaves all as it was.
abbrev pub OfMemory : AnyStation → (answer : ℕ) → (told kept : Type 0) → Type 0
OfMemory (Memory s) answer told kept = told
OfMemory (Folders s) answer told kept = (answer ≡ in_folders) × kept

-- what a poll reads from: files in memory never change, and what is read of a file in a folder is
-- what the outbox has from then on
abbrev pub before_poll : AnyStation → (now : StationState) → StationState
before_poll (Memory s) now = s
before_poll (Folders s) now = station_lent now s
