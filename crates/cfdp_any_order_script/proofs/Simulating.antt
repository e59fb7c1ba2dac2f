-- How the program ends at a script, by what was noted of the script as it was read.
use Rattle.std.proofs.Common.{◌≡◌, ◌⊎◌, ℕ, false, List, Option, None, Some, IfSome, refl, subst, sym, ⊎_elim, inl, inr}
use Rattle.std.specs.Io.KnownBytes.{Keeps}
use Rattle.std.specs.Option.{option_map}
use Rattle.std.proofs.KnownBytes.{Appends-kept, Keeps-refl, Keeps-trans}
use Rattle.station_pair.specs.declared.world_config.WorldConfig.{WorldConfig}
use Rattle.cfdp_report.specs.Settings.{world_of}
use Rattle.cfdp_report.specs.Exit.{has_report}
use Rattle.cfdp_report.proofs.FlushedEnds.{IsFlushedFrom, either_end}
use Rattle.cfdp_report.specs.declared.exit.Exit.{Exit}
use Rattle.cfdp_report.specs.declared.exit.Exit.TheVariants.{Complete, Incomplete, BadScript, Device}
use Rattle.cfdp_report.specs.declared.exit.Fault.{Fault}
use Rattle.cfdp_report.specs.declared.exit.Fault.TheVariants.{Unreadable, TooLong, Unwritable, NoMemoryAtStart, NoMemory}
use Rattle.cfdp_report.specs.declared.line_error.BadLine.{BadLine}
use Rattle.cfdp_script.specs.Script.Lines as scripts
use Rattle.cfdp_script.specs.Script.Lines.{IsFirstBad, files_of, settings_of, steps_of}
use Rattle.cfdp_script.specs.Script.Simulated.{EndsReading, EndsText, IsSilentAt}
use Rattle.cfdp_script.specs.declared.script.command.FileLine.{FileLine}
use Rattle.cfdp_script.specs.declared.script.Script.{Script}
use Rattle.cfdp_script.specs.declared.script.Step.{Step}
use Rattle.cfdp_script.proofs.Endings.{any_text, noted_of_text}
use Rattle.cfdp_script.proofs.Flushing.{flushed_script}
use Rattle.cfdp_any_order_script.specs.Simulated.{Ends, EndsAny, EndsAt, EndsDisorder, EndsRun, IsFirstNoted, first_disorder}

-- It was read from this text.
pub record IsReadFrom (text : List ℕ) (s : Script) : Type 0 where
  pub files : s.files.items ≡ files_of text
  pub steps : s.steps.items ≡ steps_of text
  pub settings : s.settings ≡ settings_of text
  pub last : s.last_set ≡ scripts.last_set text
  pub misread : option_map (λ bad. bad.line) s.first_bad ≡ scripts.first_misread text

pub read_from : (text : List ℕ) (s : Script) → s.files.items ≡ files_of text → s.steps.items ≡ steps_of text → s.settings ≡ settings_of text → s.last_set ≡ scripts.last_set text →
    option_map (λ bad. bad.line) s.first_bad ≡ scripts.first_misread text → IsReadFrom text s
read_from text s files steps settings last misread = record { files = files; steps = steps; settings = settings; last = last; misread = misread }

first_of_text : (text : List ℕ) (s : Script) (first : Option ℕ) → IsReadFrom text s → IsFirstNoted s first → IsFirstBad text first
first_of_text text s first r is = noted_of_text text _ _ _ first r.misread r.last r.settings is

run_of_text : (exit : Exit) (text : List ℕ) (s : Script) (old new : Option (List ℕ)) → IsReadFrom text s → EndsRun exit (world_of s.settings) s.files.items s.steps.items old new →
    EndsRun exit (world_of (settings_of text)) (files_of text) (steps_of text) old new
run_of_text exit text s old new r ran =
    subst (λ x. EndsRun exit (world_of (settings_of text)) (files_of text) x old new) r.steps
    (subst (λ x. EndsRun exit (world_of (settings_of text)) x s.steps.items old new) r.files
    (subst (λ x. EndsRun exit (world_of x) s.files.items s.steps.items old new) r.settings ran))

run_noted : (exit : Exit) (s : Script) (config : WorldConfig) (files : List FileLine) (steps : List Step) (old new : Option (List ℕ)) → config ≡ world_of s.settings → files ≡ s.files.items → steps ≡ s.steps.items →
    EndsRun exit config files steps old new → EndsRun exit (world_of s.settings) s.files.items s.steps.items old new
run_noted exit s config files steps old new c f e ran =
    subst (λ x. EndsRun exit (world_of s.settings) s.files.items x old new) e
    (subst (λ x. EndsRun exit (world_of s.settings) x steps old new) f
    (subst (λ x. EndsRun exit x files steps old new) c ran))

disorder_of_text : (line : ℕ) (exit : Exit) (text : List ℕ) (s : Script) (old new : Option (List ℕ)) → IsReadFrom text s → EndsAt line exit s old new → EndsDisorder line exit text old new
disorder_of_text line Complete text s old new r ends = (first_of_text text s None r ends.0, run_of_text Complete text s old new r ends.1)
disorder_of_text line Incomplete text s old new r ends = (first_of_text text s None r ends.0, run_of_text Incomplete text s old new r ends.1)
disorder_of_text line (BadScript bad) text s old new r ends = (⊎_elim (λ b. inl (first_of_text text s (Some bad.line) r b)) (λ b. inr (first_of_text text s None r b.0, b.1)) ends.0, ends.1)
disorder_of_text line (Device fault) text s old new r ends = (first_of_text text s None r ends.0, run_of_text (Device fault) text s old new r ends.1)

-- a script with such a command
ends_disorder : (line : ℕ) (exit : Exit) (text : List ℕ) (old new : Option (List ℕ)) → first_disorder (steps_of text) ≡ Some line → EndsDisorder line exit text old new → Ends exit text old new
ends_disorder line Complete text old new e ends = subst (λ o. EndsAny o Complete text old new) (sym e) ends
ends_disorder line Incomplete text old new e ends = subst (λ o. EndsAny o Incomplete text old new) (sym e) ends
ends_disorder line (BadScript bad) text old new e ends = subst (λ o. EndsAny o (BadScript bad) text old new) (sym e) ends
ends_disorder line (Device NoMemory) text old new e ends = subst (λ o. EndsAny o (Device NoMemory) text old new) (sym e) ends
ends_disorder line (Device NoMemoryAtStart) text old new e ends = ends.1
ends_disorder line (Device Unwritable) text old new e ends = subst (λ o. EndsAny o (Device Unwritable) text old new) (sym e) ends
ends_disorder line (Device (Unreadable kind)) text old new e ends = absurd ends.1
ends_disorder line (Device TooLong) text old new e ends = absurd ends.1

pub disorder_ends : (line : ℕ) (exit : Exit) (text : List ℕ) (s : Script) (old new : Option (List ℕ)) → IsReadFrom text s → first_disorder s.steps.items ≡ Some line → EndsAt line exit s old new → Ends exit text old new
disorder_ends line exit text s old new r e ends =
    ends_disorder line exit text old new (subst (λ x. first_disorder x ≡ Some line) r.steps e) (disorder_of_text line exit text s old new r ends)

-- its commands ran
pub ran_at : (line : ℕ) (exit : Exit) (s : Script) (config : WorldConfig) (files : List FileLine) (steps : List Step) (old new : Option (List ℕ)) → IsFirstNoted s None → config ≡ world_of s.settings → files ≡ s.files.items →
    steps ≡ s.steps.items → EndsRun exit config files steps old new → EndsAt line exit s old new
ran_at line Complete s config files steps old new good c f e ran = (good, run_noted Complete s config files steps old new c f e ran)
ran_at line Incomplete s config files steps old new good c f e ran = (good, run_noted Incomplete s config files steps old new c f e ran)
ran_at line (BadScript bad) s config files steps old new good c f e ran = absurd ran
ran_at line (Device fault) s config files steps old new good c f e ran = (good, run_noted (Device fault) s config files steps old new c f e ran)

-- one without
pub usual_ends : (exit : Exit) (text : List ℕ) (s : Script) (old new : Option (List ℕ)) → IsReadFrom text s → first_disorder s.steps.items ≡ None → EndsText exit text old new → IsSilentAt exit old new → Ends exit text old new
usual_ends Complete text s old new r e ends silent = subst (λ o. EndsAny o Complete text old new) (sym (subst (λ x. first_disorder x ≡ None) r.steps e)) ends
usual_ends Incomplete text s old new r e ends silent = subst (λ o. EndsAny o Incomplete text old new) (sym (subst (λ x. first_disorder x ≡ None) r.steps e)) ends
usual_ends (BadScript bad) text s old new r e ends silent = subst (λ o. EndsAny o (BadScript bad) text old new) (sym (subst (λ x. first_disorder x ≡ None) r.steps e)) ends
usual_ends (Device NoMemory) text s old new r e ends silent = subst (λ o. EndsAny o (Device NoMemory) text old new) (sym (subst (λ x. first_disorder x ≡ None) r.steps e)) ends
usual_ends (Device NoMemoryAtStart) text s old new r e ends silent = silent
usual_ends (Device Unwritable) text s old new r e ends silent = subst (λ o. EndsAny o (Device Unwritable) text old new) (sym (subst (λ x. first_disorder x ≡ None) r.steps e)) ends
usual_ends (Device (Unreadable kind)) text s old new r e ends silent = absurd ends
usual_ends (Device TooLong) text s old new r e ends silent = absurd ends

-- reading failed
pub reading_fails : (fault : Fault) (left out : Option (List ℕ)) → EndsReading fault left → IfSome left (λ text. Ends (Device fault) text out out)
reading_fails (Unreadable kind) left out of = any_text left (λ text. Ends (Device (Unreadable kind)) text out out) (λ text. Keeps-refl out)
reading_fails TooLong None out of = tt
reading_fails TooLong (Some text) out of = (of, Keeps-refl out)
reading_fails NoMemoryAtStart left out of = any_text left (λ text. Ends (Device NoMemoryAtStart) text out out) (λ text. Keeps-refl out)
reading_fails NoMemory left out of = absurd of
reading_fails Unwritable left out of = absurd of

-- ---- what holds of an end still holds once what waits in the buffer was written out
module _ (old mid new : Option (List ℕ)) (kept : Keeps mid new) (text : List ℕ) where
  kept_complete : (o : Option ℕ) → EndsAny o Complete text old mid → EndsAny o Complete text old new
  kept_complete None ends = flushed_script old mid new kept (Some text) Complete Complete ends (inl refl) (λ no. refl)
  kept_complete (Some line) ends = (ends.0, (ends.1.0, ends.1.1, Appends-kept old mid new _ ends.1.2 kept))

  kept_incomplete : (o : Option ℕ) → EndsAny o Incomplete text old mid → EndsAny o Incomplete text old new
  kept_incomplete None ends = flushed_script old mid new kept (Some text) Incomplete Incomplete ends (inl refl) (λ no. refl)
  kept_incomplete (Some line) ends = (ends.0, (ends.1.0, ends.1.1, Appends-kept old mid new _ ends.1.2 kept))

  kept_fault : (o : Option ℕ) → EndsAny o (Device NoMemory) text old mid → EndsAny o (Device NoMemory) text old new
  kept_fault None ends = flushed_script old mid new kept (Some text) (Device NoMemory) (Device NoMemory) ends (inl refl) (λ no. refl)
  kept_fault (Some line) ends = (ends.0, (ends.1.0, ends.1.1, Appends-kept old mid new _ ends.1.2 kept))

  unwritten_complete : (o : Option ℕ) → EndsAny o Complete text old mid → EndsAny o (Device Unwritable) text old new
  unwritten_complete None ends = ends.0
  unwritten_complete (Some line) ends = (ends.0, ends.1.0)

  unwritten_incomplete : (o : Option ℕ) → EndsAny o Incomplete text old mid → EndsAny o (Device Unwritable) text old new
  unwritten_incomplete None ends = ends.0
  unwritten_incomplete (Some line) ends = (ends.0, ends.1.0)

  unwritten_fault : (o : Option ℕ) → EndsAny o (Device NoMemory) text old mid → EndsAny o (Device Unwritable) text old new
  unwritten_fault None ends = ends.0
  unwritten_fault (Some line) ends = (ends.0, ends.1.0)

  kept_bad : (o : Option ℕ) (bad : BadLine) → EndsAny o (BadScript bad) text old mid → EndsAny o (BadScript bad) text old new
  kept_bad None bad ends = ends
  kept_bad (Some line) bad ends = (ends.0, Keeps-trans old mid new ends.1 kept)

  kept_unwritten : (o : Option ℕ) → EndsAny o (Device Unwritable) text old mid → EndsAny o (Device Unwritable) text old new
  kept_unwritten None ends = ends
  kept_unwritten (Some line) ends = ends

  ends_flushed : (exit ended : Exit) → Ends exit text old mid → IsFlushedFrom exit ended → (has_report exit ≡ false → ended ≡ exit) → Ends ended text old new
  ends_flushed Complete ended ends from none = either_end (λ e. Ends e text old new) Complete ended (kept_complete (first_disorder (steps_of text)) ends) (unwritten_complete (first_disorder (steps_of text)) ends) from
  ends_flushed Incomplete ended ends from none = either_end (λ e. Ends e text old new) Incomplete ended (kept_incomplete (first_disorder (steps_of text)) ends) (unwritten_incomplete (first_disorder (steps_of text)) ends) from
  ends_flushed (Device NoMemory) ended ends from none = either_end (λ e. Ends e text old new) (Device NoMemory) ended (kept_fault (first_disorder (steps_of text)) ends) (unwritten_fault (first_disorder (steps_of text)) ends) from
  ends_flushed (BadScript bad) ended ends from none = subst (λ e. Ends e text old new) (sym (none refl)) (kept_bad (first_disorder (steps_of text)) bad ends)
  ends_flushed (Device NoMemoryAtStart) ended ends from none = subst (λ e. Ends e text old new) (sym (none refl)) (Keeps-trans old mid new ends kept)
  ends_flushed (Device Unwritable) ended ends from none = subst (λ e. Ends e text old new) (sym (none refl)) (kept_unwritten (first_disorder (steps_of text)) ends)
  ends_flushed (Device (Unreadable kind)) ended ends from none = subst (λ e. Ends e text old new) (sym (none refl)) (Keeps-trans old mid new ends kept)
  ends_flushed (Device TooLong) ended ends from none = subst (λ e. Ends e text old new) (sym (none refl)) (ends.0, Keeps-trans old mid new ends.1 kept)

pub flushed_any : (old mid new : Option (List ℕ)) (kept : Keeps mid new) (remaining : Option (List ℕ)) (exit ended : Exit) → IfSome remaining (λ t. Ends exit t old mid) → IsFlushedFrom exit ended →
    (has_report exit ≡ false → ended ≡ exit) → IfSome remaining (λ t. Ends ended t old new)
flushed_any old mid new kept None exit ended ends from none = tt
flushed_any old mid new kept (Some text) exit ended ends from none = ends_flushed old mid new kept text exit ended ends from none
