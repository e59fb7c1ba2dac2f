-- What is said of a run, and of frames and PDUs.
use Rattle.std.specs.Prelude.{◌≡◌, ◌≤◌, ℕ, List, [], codes, Some}
use Rattle.std.specs.Str.{IsUtf8}
use Rattle.serde_json.specs.Data.{Data, depth, number, string, unsigned}
use Rattle.serde_json.specs.Find.{get}
use Rattle.serde_json.specs.Read.{max_depth, read}
use Rattle.cfdp_report.specs.Exit.{exit_status}
use Rattle.cfdp_report.specs.declared.exit.Exit.{Exit}
use Rattle.cfdp_script.specs.Script.Simulated.{EndsScript, IsSilentAt}

-- A run of this script ended so and wrote this report: what `run_sim` promises of a writer that had
-- nothing before.
pub record Ends (script : List ℕ) (exit : Exit) (report : List ℕ) : Type 0 where
  pub ends : EndsScript exit script (Some []) (Some report)
  pub silent : IsSilentAt exit (Some []) (Some report)

-- this is said of a run that ended so and wrote this report
pub record Tells (exit : Exit) (report : List ℕ) (told : Data) : Type 0 where
  pub report_told : get (codes "report") told ≡ Some (string report)
  pub status_told : get (codes "status") told ≡ Some (number (unsigned (exit_status exit)))
  pub shallow : depth told ≤ max_depth

-- A text in JSON says this of a run of this script.
pub record TellsRun (script text : List ℕ) : Type 0 where
  pub exit : Exit
  pub report : List ℕ
  pub ended : Ends script exit report
  pub told : Data
  pub reads : read text ≡ Some told
  pub tells : Tells exit report told

-- A run of this script wrote a report that is no text. (Reports are ASCII, which isn't proved.)
pub record HasNoText (script : List ℕ) : Type 0 where
  pub exit : Exit
  pub report : List ℕ
  pub ended : Ends script exit report
  pub no_text : ¬ IsUtf8 report
