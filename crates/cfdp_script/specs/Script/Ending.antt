-- How the run of a script ends, and what it writes.
use Rattle.std.specs.Prelude.{◌≡◌, ℕ, ◌==◌, List, Option, if◌then◌else◌}
use Rattle.std.specs.Io.KnownBytes.{Appends, Keeps}
use Rattle.std.specs.List.{list_any}
use Rattle.link_sim.specs.World.State.{WorldState}
use Rattle.cfdp_report.specs.Report.Answers.{is_device_fault}
use Rattle.cfdp_script.specs.Script.Report.{report_text, puts_asked, puts_completed}
use Rattle.cfdp_script.specs.Script.Run.{Runs}
use Rattle.cfdp_report.specs.declared.report.answer.Answered.{Answered}
use Rattle.cfdp_report.specs.declared.exit.Exit.{Exit}
use Rattle.cfdp_report.specs.declared.exit.Exit.TheVariants.{Complete, Incomplete, BadScript, Device}
use Rattle.cfdp_report.specs.declared.exit.Fault.{Fault}
use Rattle.cfdp_report.specs.declared.exit.Fault.TheVariants.{Unreadable, TooLong, Unwritable, NoMemoryAtStart, NoMemory}
use Rattle.cfdp_script.specs.declared.script.Step.{Step}

-- the exit, by what the commands answered, and how many of the puts were completed
abbrev pub exit_of : List Answered → (complete asked : ℕ) → Exit
exit_of answered complete asked =
    if list_any (λ done. is_device_fault done.answer) answered then Device NoMemory
    else if complete == asked then Complete else Incomplete

-- All commands ran from this world, had these answers, and left the last one.
pub record RunsAll (steps : List Step) (first : WorldState) : Type 0 where
  pub answered : List Answered
  pub last : WorldState
  pub runs : Runs steps answered first last

-- Commands with these answers, which left this world, ended so, and what was written is its report.
pub record IsTold (steps : List Step) (answered : List Answered) (last : WorldState) (exit : Exit)
    (old new : Option (List ℕ)) : Type 0 where
  pub ends : exit ≡ exit_of answered (puts_completed last) (puts_asked steps)
  pub written : Appends old new (report_text (puts_asked steps) answered last)

-- All commands ran from this world and ended so, and their end was reported.
abbrev pub RunsTold : List Step → WorldState → Exit → (old new : Option (List ℕ)) → Type 0
RunsTold steps first exit old new =
    (ran : RunsAll steps first) × IsTold steps ran.answered ran.last exit old new

-- A run stopped for one of these. If the report couldn't be written to its end, all commands ran
-- before that, and nothing is said of what was written: a writer doesn't say which failures it has.
-- If there was no memory at the start, nothing is written. A run reads nothing.
abbrev pub StopsRun : Fault → (old new : Option (List ℕ)) → (ran told : Type 0) → Type 0
StopsRun NoMemory old new ran told = told
StopsRun NoMemoryAtStart old new ran told = Keeps old new
StopsRun Unwritable old new ran told = ran
StopsRun (Unreadable kind) old new ran told = ⊥
StopsRun TooLong old new ran told = ⊥

-- These commands ended so from this world.
abbrev pub EndsRun : Exit → List Step → WorldState → (old new : Option (List ℕ)) → Type 0
EndsRun Complete steps first old new = RunsTold steps first Complete old new
EndsRun Incomplete steps first old new = RunsTold steps first Incomplete old new
EndsRun (BadScript bad) steps first old new = ⊥
EndsRun (Device fault) steps first old new =
    StopsRun fault old new (RunsAll steps first) (RunsTold steps first (Device fault) old new)
