-- What holds of a run's end still holds once what waits in the buffer was written out.
use Rattle.std.proofs.Common.{◌≡◌, ℕ, false, List, Option, None, Some, IfSome, refl, subst, sym, ⊎_elim}
use Rattle.std.specs.Io.KnownBytes.{Keeps}
use Rattle.std.proofs.KnownBytes.{Appends-kept, Keeps-trans}
use Rattle.cfdp_script.specs.Script.Report.{puts_asked, report_text}
use Rattle.cfdp_script.specs.Script.Lines.{steps_of}
use Rattle.cfdp_script.specs.Script.Simulated.{EndsScript, IsSilentAt, RunsToEnd}
use Rattle.cfdp_report.specs.declared.exit.Exit.{Exit}
use Rattle.cfdp_report.specs.declared.exit.Exit.TheVariants.{Complete, Incomplete, BadScript, Device}
use Rattle.cfdp_report.specs.declared.exit.Fault.TheVariants.{Unreadable, TooLong, Unwritable, NoMemoryAtStart, NoMemory}
use Rattle.cfdp_report.specs.Exit.{has_report}
use Rattle.cfdp_report.proofs.FlushedEnds.{IsFlushedFrom, either_end}

module _ (old mid new : Option (List ℕ)) (kept : Keeps mid new) where
  to_end_kept : (text : List ℕ) (exit : Exit) → RunsToEnd text exit old mid → RunsToEnd text exit old new
  to_end_kept text exit to = (
    to.0,
    record {
      ends = to.1.ends;
      written = Appends-kept old mid new (report_text (puts_asked (steps_of text)) to.0.ran.answered to.0.ran.last) to.1.written kept;
    },
  )

  script_kept : (text : List ℕ) (exit : Exit) → EndsScript exit text old mid → EndsScript exit text old new
  script_kept text Complete ends = to_end_kept text Complete ends
  script_kept text Incomplete ends = to_end_kept text Incomplete ends
  script_kept text (BadScript bad) ends = ends
  script_kept text (Device NoMemory) ends = to_end_kept text (Device NoMemory) ends
  script_kept text (Device NoMemoryAtStart) ends = tt
  script_kept text (Device Unwritable) ends = ends
  script_kept text (Device (Unreadable kind)) ends = tt
  script_kept text (Device TooLong) ends = ends

  -- one that wrote none stays as it was
  script_stays : (text : List ℕ) (exit ended : Exit) → EndsScript exit text old mid → has_report exit ≡ false
      → (has_report exit ≡ false → ended ≡ exit) → EndsScript ended text old new
  script_stays text exit ended ends silent none = subst (λ e. EndsScript e text old new) (sym (none silent)) (script_kept text exit ends)

  -- one that wrote a report which couldn't be written out ran all the same
  script_unwritten : (text : List ℕ) (exit ended : Exit) → EndsScript exit text old mid → ended ≡ Device Unwritable
      → (has_report exit ≡ false → ended ≡ exit) → EndsScript ended text old new
  script_unwritten text Complete ended ends failed none = subst (λ e. EndsScript e text old new) (sym failed) ends.0
  script_unwritten text Incomplete ended ends failed none = subst (λ e. EndsScript e text old new) (sym failed) ends.0
  script_unwritten text (Device NoMemory) ended ends failed none = subst (λ e. EndsScript e text old new) (sym failed) ends.0
  script_unwritten text (BadScript bad) ended ends failed none = script_stays text (BadScript bad) ended ends refl none
  script_unwritten text (Device NoMemoryAtStart) ended ends failed none = script_stays text (Device NoMemoryAtStart) ended ends refl none
  script_unwritten text (Device Unwritable) ended ends failed none = script_stays text (Device Unwritable) ended ends refl none
  script_unwritten text (Device (Unreadable kind)) ended ends failed none = script_stays text (Device (Unreadable kind)) ended ends refl none
  script_unwritten text (Device TooLong) ended ends failed none = script_stays text (Device TooLong) ended ends refl none

  silent_kept : (exit : Exit) → IsSilentAt exit old mid → IsSilentAt exit old new
  silent_kept Complete silent = tt
  silent_kept Incomplete silent = tt
  silent_kept (BadScript bad) silent = Keeps-trans old mid new silent kept
  silent_kept (Device NoMemory) silent = tt
  silent_kept (Device NoMemoryAtStart) silent = Keeps-trans old mid new silent kept
  silent_kept (Device Unwritable) silent = tt
  silent_kept (Device (Unreadable kind)) silent = Keeps-trans old mid new silent kept
  silent_kept (Device TooLong) silent = Keeps-trans old mid new silent kept

  pub flushed_script : (left : Option (List ℕ)) (exit ended : Exit) → IfSome left (λ text. EndsScript exit text old mid)
      → IsFlushedFrom exit ended → (has_report exit ≡ false → ended ≡ exit) → IfSome left (λ text. EndsScript ended text old new)
  flushed_script None exit ended ends from none = tt
  flushed_script (Some text) exit ended ends from none = ⊎_elim
      (λ same. subst (λ e. EndsScript e text old new) (sym same) (script_kept text exit ends))
      (λ failed. script_unwritten text exit ended ends failed none) from

  pub flushed_silent : (exit ended : Exit) → IsSilentAt exit old mid → IsFlushedFrom exit ended → IsSilentAt ended old new
  flushed_silent exit ended silent = either_end (λ e. IsSilentAt e old new) exit ended (silent_kept exit silent) tt
