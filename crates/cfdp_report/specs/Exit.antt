-- How a run of the program ended, and what of its report the process has written then.
use Rattle.std.specs.Prelude.{◌≡◌, ◌==◌, ℕ, Bool, true, false, List, [], if◌then◌else◌}
use Rattle.cfdp_report.specs.declared.exit.Exit.{Exit}
use Rattle.cfdp_report.specs.declared.exit.Exit.TheVariants.{Complete, Incomplete, BadScript, Device}
use Rattle.cfdp_report.specs.declared.exit.Fault.TheVariants.{NoMemory}

-- the exit status of the process
abbrev pub exit_status : Exit → ℕ
exit_status Complete = 0
exit_status Incomplete = 1
exit_status (BadScript _) = 2
exit_status (Device _) = 3

-- how a run of stations ended, by whether memory ran out, whether a store failed, and how many of
-- how many puts were completed
abbrev pub run_exit : (short failed : Bool) → (complete asked : ℕ) → Exit
run_exit short failed complete asked = if short then Device NoMemory
    else if failed then Device NoMemory
    else if complete == asked then Complete else Incomplete

-- whether a run that ended so wrote a report
abbrev pub has_report : Exit → Bool
has_report Complete = true
has_report Incomplete = true
has_report (BadScript _) = false
has_report (Device NoMemory) = true
has_report (Device _) = false

-- Of a report nothing waits in the writer's buffer: all of it has gone to what lies beyond it.
abbrev pub IsFlushedAt : Exit → (waiting : List ℕ) → Type 0
IsFlushedAt exit waiting = has_report exit ≡ true → waiting ≡ []
