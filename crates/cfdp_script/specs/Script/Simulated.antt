-- How the program ends at a script, and what it writes.
use Rattle.std.specs.Prelude.{◌≡◌, ◌⊎◌, ◌<◌, ℕ, List, Option, None, Some, length, ⊤}
use Rattle.std.specs.FinMap.{empty}
use Rattle.std.specs.Io.KnownBytes.{Keeps}
use Rattle.link_sim.specs.Clean.{IsClean}
use Rattle.link_sim.specs.Running.{KeepsPromises}
use Rattle.link_sim.specs.Settling.{IsSettled}
use Rattle.link_sim.specs.World.State.{WorldState, IsFirst}
use Rattle.station_pair.specs.declared.side.Side.TheVariants.{One, Two}
use Rattle.station_pair.specs.declared.world_config.WorldConfig.{WorldConfig}
use Rattle.cfdp_script.specs.Script.Ending.{EndsRun, IsTold, RunsAll}
use Rattle.cfdp_script.specs.Script.Outboxes.{outbox_of}
use Rattle.cfdp_script.specs.Script.Report.{puts_asked, puts_completed}
use Rattle.cfdp_script.specs.Script.Run.{AreAccepted}
use Rattle.cfdp_script.specs.Script.Lines.{IsFirstBad, files_of, settings_of, steps_of}
use Rattle.cfdp_report.specs.Reading.{EndsReadingUpTo}
use Rattle.cfdp_report.specs.Settings.{world_of}
use Rattle.cfdp_script.specs.declared.script.command.FileLine.{FileLine}
use Rattle.cfdp_report.specs.declared.exit.Exit.{Exit}
use Rattle.cfdp_report.specs.declared.exit.Exit.TheVariants.{Complete, Incomplete, BadScript, Device}
use Rattle.cfdp_report.specs.declared.exit.Fault.{Fault}
use Rattle.cfdp_report.specs.declared.exit.Fault.TheVariants.{Unreadable, TooLong, Unwritable, NoMemoryAtStart, NoMemory}
use Rattle.cfdp_script.specs.declared.script.Step.{Step}

-- The script is good. From the first world of its settings and its files its commands ran to the
-- last of them. In the world that they left, each inbox holds the files of the puts whose
-- completions were indicated there, one written over the other in their order, and nothing else. If
-- all is settled in that world, nothing went wrong and every put was accepted, then as many puts
-- were completed as the script asks for.
pub record RunsScript (text : List ℕ) : Type 0 where
  pub good : IsFirstBad text None
  pub first : WorldState
  pub starts : IsFirst (world_of (settings_of text))
      (outbox_of One (files_of text), outbox_of Two (files_of text)) (empty, empty) first
  pub ran : RunsAll (steps_of text) first
  pub promised : KeepsPromises (empty, empty) ran.last
  pub completed : IsSettled ran.last → IsClean ran.last
      → AreAccepted (steps_of text) ran.answered
      → puts_completed ran.last ≡ puts_asked (steps_of text)

-- It ran so and ended so, and what was written is the report of the world that its commands left.
abbrev pub RunsToEnd : List ℕ → Exit → (old new : Option (List ℕ)) → Type 0
RunsToEnd text exit old new = (all : RunsScript text)
    × IsTold (steps_of text) all.ran.answered all.ran.last exit old new

-- A run ended so at this text. It was read, so there is nothing to read that could fail. If the
-- report couldn't be written to its end, the script ran all the same; of what was written nothing
-- is said. That the writer failed then can't be said: no writer says which failures it has.
abbrev pub EndsText : Exit → List ℕ → (old new : Option (List ℕ)) → Type 0
EndsText Complete text old new = RunsToEnd text Complete old new
EndsText Incomplete text old new = RunsToEnd text Incomplete old new
EndsText (BadScript bad) text old new = IsFirstBad text (Some bad.line)
EndsText (Device NoMemory) text old new = RunsToEnd text (Device NoMemory) old new
EndsText (Device NoMemoryAtStart) text old new = ⊤
EndsText (Device Unwritable) text old new = RunsScript text
EndsText (Device (Unreadable kind)) text old new = ⊥
EndsText (Device TooLong) text old new = ⊥

-- A text is too long to be read.
abbrev pub IsTooLong : List ℕ → Type 0
IsTooLong text = 1048576 < length text

-- The program ended so at a script that a reader gives, which is this text: reading failed, or the
-- text is too long, or it was read and the run ended so.
abbrev pub EndsScript : Exit → List ℕ → (old new : Option (List ℕ)) → Type 0
EndsScript (Device (Unreadable kind)) text old new = ⊤
EndsScript (Device TooLong) text old new = IsTooLong text
EndsScript exit text old new = EndsText exit text old new

-- Two stations were made so, with these files, and these commands ended so from there; or there was
-- no memory for the stations, and nothing is written.
abbrev pub EndsFrom : Exit → WorldConfig → List FileLine → List Step
    → (old new : Option (List ℕ)) → Type 0
EndsFrom exit config files steps old new =
    ((exit ≡ Device NoMemoryAtStart) × Keeps old new)
    ⊎ ((first : WorldState)
    × IsFirst config (outbox_of One files, outbox_of Two files) (empty, empty) first
    × EndsRun exit steps first old new)

-- Reading a script failed so: it may have at most 1,048,576 octets.
abbrev pub EndsReading : Fault → Option (List ℕ) → Type 0
EndsReading fault left = EndsReadingUpTo 1048576 fault left

-- If the script is bad or couldn't be read, or there was no memory at the start, nothing is
-- written.
abbrev pub IsSilentAt : Exit → (old new : Option (List ℕ)) → Type 0
IsSilentAt (BadScript bad) old new = Keeps old new
IsSilentAt (Device (Unreadable kind)) old new = Keeps old new
IsSilentAt (Device TooLong) old new = Keeps old new
IsSilentAt (Device NoMemoryAtStart) old new = Keeps old new
IsSilentAt _ old new = ⊤
