-- How the program ends at a script, over whatever link it runs, and what it writes.
use Rattle.std.specs.Prelude.{◌≡◌, ◌⊎◌, ℕ, Bool, true, false, List, [], ◌∷◌, Option, None, Some, if◌then◌else◌}
use Rattle.std.specs.FinMap.{empty}
use Rattle.std.specs.Option.{option_map}
use Rattle.std.specs.Io.KnownBytes.{Appends, Keeps}
use Rattle.station_pair.specs.declared.side.Side.TheVariants.{One, Two}
use Rattle.station_pair.specs.declared.world_config.WorldConfig.{WorldConfig}
use Rattle.any_order.specs.World.{IsNewWorld, KeepsPromise}
use Rattle.cfdp_report.specs.Settings.{world_of}
use Rattle.cfdp_report.specs.declared.exit.Exit.{Exit}
use Rattle.cfdp_report.specs.declared.exit.Exit.TheVariants.{Complete, Incomplete, BadScript, Device}
use Rattle.cfdp_report.specs.declared.exit.Fault.TheVariants.{Unreadable, TooLong, Unwritable, NoMemoryAtStart, NoMemory}
use Rattle.cfdp_script.specs.Script.Lines as scripts
use Rattle.cfdp_script.specs.Script.Lines.{IsFirstBad, files_of, settings_of, steps_of}
use Rattle.cfdp_script.specs.Script.Outboxes.{outbox_of}
use Rattle.cfdp_script.specs.Script.Report.{puts_asked}
use Rattle.cfdp_script.specs.Script.Simulated.{EndsScript, IsTooLong}
use Rattle.cfdp_script.specs.declared.script.command.FileLine.{FileLine}
use Rattle.cfdp_script.specs.declared.script.Script.{Script}
use Rattle.cfdp_script.specs.declared.script.Step.{Step}
use Rattle.cfdp_script.specs.declared.script.command.Command.{Command}
use Rattle.cfdp_script.specs.declared.script.command.Command.TheVariants.{Disorder}
use Rattle.cfdp_any_order_script.specs.declared.answer.Answered.{Answered}
use Rattle.cfdp_any_order_script.specs.Links.{no_frames}
use Rattle.cfdp_any_order_script.specs.Performing.{PlayState, Runs}
use Rattle.cfdp_any_order_script.specs.Report.{exit_of, puts_completed, report_text}

-- if a command is one that no link does that keeps the order of its frames: `overtake`, `repeat` or
-- `restart`, also with `resume`
abbrev pub is_disorder : Command → Bool
is_disorder (Disorder what) = true
is_disorder _ = false

-- the line of the first such command of a script, if it has one
abbrev pub first_disorder : List Step → Option ℕ
first_disorder [] = None
first_disorder (step ∷ steps) =
    if is_disorder step.command then Some step.line else first_disorder steps

-- Two stations at which nothing was done yet, with these files to send, and no frames.
pub record IsFirst (config : WorldConfig) (files : List FileLine) (first : PlayState) : Type 0 where
  pub world : IsNewWorld config (outbox_of One files, outbox_of Two files) (empty, empty)
      first.world
  pub one : first.one ≡ no_frames
  pub two : first.two ≡ no_frames

-- All commands ran from two such stations, had these answers, and left the last world; the promise
-- holds of all that.
pub record RunsAll (config : WorldConfig) (files : List FileLine) (steps : List Step) : Type 0
  where
    pub first : PlayState
    pub starts : IsFirst config files first
    pub answered : List Answered
    pub last : PlayState
    pub runs : Runs steps answered first last
    pub promised : KeepsPromise last.world

-- They ended so, and what was written is the report of the world that they left.
abbrev pub RunsTold : WorldConfig → List FileLine → List Step → Exit → (old new : Option (List ℕ))
    → Type 0
RunsTold config files steps exit old new = (ran : RunsAll config files steps)
    × (exit ≡ exit_of ran.answered (puts_completed ran.last.world) (puts_asked steps))
    × Appends old new (report_text (puts_asked steps) ran.answered ran.last.world)

-- These commands ended so. If there was no memory at the start, or none to make the report, nothing
-- is written. If the report couldn't be written to its end, they ran all the same; of what was
-- written nothing is said.
abbrev pub EndsRun : Exit → WorldConfig → List FileLine → List Step → (old new : Option (List ℕ))
    → Type 0
EndsRun Complete c files steps old new = RunsTold c files steps Complete old new
EndsRun Incomplete c files steps old new = RunsTold c files steps Incomplete old new
EndsRun (BadScript bad) c files steps old new = ⊥
EndsRun (Device NoMemory) c files steps old new = RunsTold c files steps (Device NoMemory) old new
EndsRun (Device NoMemoryAtStart) c files steps old new = Keeps old new
EndsRun (Device Unwritable) c files steps old new = RunsAll c files steps
EndsRun (Device (Unreadable kind)) c files steps old new = ⊥
EndsRun (Device TooLong) c files steps old new = ⊥

-- A script with such a command was bad at this line: it is the first bad one; or none is bad, but
-- something must be shown of the run, and this is the line of the first such command.
abbrev pub IsRefused : (disorder line : ℕ) → List ℕ → Type 0
IsRefused disorder line text = IsFirstBad text (Some line)
    ⊎ (IsFirstBad text None × (line ≡ disorder))

-- This is the first bad line of a script, by what was noted of it.
abbrev pub IsFirstNoted : Script → Option ℕ → Type 0
IsFirstNoted script first = scripts.IsFirst (option_map (λ bad. bad.line) script.first_bad)
    script.last_set script.settings first

-- The program ended so at a script, if its first such command stands in this line.
abbrev pub EndsDisorder : ℕ → Exit → List ℕ → (old new : Option (List ℕ)) → Type 0
EndsDisorder line (BadScript bad) text old new = IsRefused line bad.line text × Keeps old new
EndsDisorder line exit text old new = IsFirstBad text None
    × EndsRun exit (world_of (settings_of text)) (files_of text) (steps_of text) old new

-- It ended so at such a script, by what was noted of the script as it was read.
abbrev pub EndsAt : ℕ → Exit → Script → (old new : Option (List ℕ)) → Type 0
EndsAt line (BadScript bad) script old new = (IsFirstNoted script (Some bad.line)
    ⊎ (IsFirstNoted script None × (bad.line ≡ line))) × Keeps old new
EndsAt line exit script old new = IsFirstNoted script None
    × EndsRun exit (world_of script.settings) script.files.items script.steps.items old new

-- It ended so at a script that was read: if it has no such command, as `cfdp_script` says.
abbrev pub EndsAny : Option ℕ → Exit → List ℕ → (old new : Option (List ℕ)) → Type 0
EndsAny None exit text old new = EndsScript exit text old new
EndsAny (Some line) exit text old new = EndsDisorder line exit text old new

-- It ended so at a script that a reader gives: reading failed, or there was no memory for it, or it
-- is too long, and nothing was written; or it was read.
abbrev pub Ends : Exit → List ℕ → (old new : Option (List ℕ)) → Type 0
Ends (Device (Unreadable kind)) text old new = Keeps old new
Ends (Device TooLong) text old new = IsTooLong text × Keeps old new
Ends (Device NoMemoryAtStart) text old new = Keeps old new
Ends exit text old new = EndsAny (first_disorder (steps_of text)) exit text old new
