-- How a run ends, by its parts.
use Rattle.std.proofs.Common.{◌≡◌, ◌∙◌, ℕ, List, Option, None, Some, IfSome, ap, subst, sym, ⊎_elim}
use Rattle.std.specs.FinMap.{empty}
use Rattle.std.proofs.KnownBytes.{Keeps-refl}
use Rattle.cfdp_header.specs.Files.{FileMap}
use Rattle.cfdp_entity.specs.declared.config.EntityConfig.{EntityConfig}
use Rattle.cfdp_entity.specs.Entity.{EntityState}
use Rattle.link_sim.specs.Clean.{AllComplete, IsClean}
use Rattle.link_sim.specs.Running.{KeepsPromises, Led}
use Rattle.link_sim.specs.Settling.{IsSettled}
use Rattle.link_sim.specs.World.State.{WorldState, IsFirst, entity_at}
use Rattle.station_pair.specs.declared.side.Side.{Side}
use Rattle.station_pair.specs.declared.side.Side.TheVariants.{One, Two}
use Rattle.station_pair.specs.declared.world_config.WorldConfig.{WorldConfig}
use Rattle.cfdp_script.specs.Script.Ending.{EndsRun, RunsAll}
use Rattle.cfdp_script.proofs.Leads.{runs_lead}
use Rattle.cfdp_script.proofs.Counting.{completed-all, puts-all}
use Rattle.cfdp_script.specs.Script.Outboxes.{outbox_of}
use Rattle.cfdp_script.specs.Script.Report.{puts_asked, puts_completed}
use Rattle.cfdp_script.specs.Script.Run.{AreAccepted}
use Rattle.cfdp_script.specs.Script.Lines as scripts
use Rattle.cfdp_script.specs.Script.Lines.{IsFirstBad, files_of, settings_of, steps_of}
use Rattle.cfdp_report.specs.Settings.{world_of}
use Rattle.cfdp_script.specs.Script.Simulated.{EndsFrom, EndsReading, EndsScript, EndsText, IsSilentAt, RunsScript}
use Rattle.cfdp_script.specs.declared.script.command.FileLine.{FileLine}
use Rattle.cfdp_script.specs.declared.script.Step.{Step}
use Rattle.cfdp_report.specs.declared.settings.Settings.{Settings}
use Rattle.cfdp_report.specs.declared.exit.Exit.{Exit}
use Rattle.cfdp_report.specs.declared.exit.Exit.TheVariants.{Complete, Incomplete, BadScript, Device}
use Rattle.cfdp_report.specs.declared.exit.Fault.{Fault}
use Rattle.cfdp_report.specs.declared.exit.Fault.TheVariants.{Unreadable, TooLong, Unwritable, NoMemoryAtStart, NoMemory}

-- ---- a text that is known if what the reader has is known
pub known_text : (remaining : Option (List ℕ)) (text : List ℕ) (P : List ℕ → Type 0) → IfSome remaining (λ all. text ≡ all) → P text → IfSome remaining P
known_text None text P same p = tt
known_text (Some all) text P same p = subst P same p

pub any_text : (remaining : Option (List ℕ)) (P : List ℕ → Type 0) → ((text : List ℕ) → P text) → IfSome remaining P
any_text None P p = tt
any_text (Some all) P p = p all

-- ---- when reading failed
pub reading_ends : (fault : Fault) (left old new : Option (List ℕ)) → EndsReading fault left → IfSome left (λ text. EndsScript (Device fault) text old new)
reading_ends (Unreadable kind) left old new of = any_text left (λ text. EndsScript (Device (Unreadable kind)) text old new) (λ text. tt)
reading_ends TooLong None old new of = tt
reading_ends TooLong (Some text) old new of = of
reading_ends NoMemoryAtStart left old new of = any_text left (λ text. EndsScript (Device NoMemoryAtStart) text old new) (λ text. tt)
reading_ends NoMemory left old new of = absurd of
reading_ends Unwritable left old new of = absurd of

pub reading_silent : (fault : Fault) (left out : Option (List ℕ)) → EndsReading fault left → IsSilentAt (Device fault) out out
reading_silent (Unreadable kind) left out of = Keeps-refl out
reading_silent TooLong left out of = Keeps-refl out
reading_silent NoMemoryAtStart left out of = Keeps-refl out
reading_silent NoMemory left out of = absurd of
reading_silent Unwritable left out of = absurd of

-- what ends a text's run ends that of a script
pub text_ends : (exit : Exit) (text : List ℕ) (old new : Option (List ℕ)) → EndsText exit text old new → EndsScript exit text old new
text_ends Complete text old new ends = ends
text_ends Incomplete text old new ends = ends
text_ends (BadScript bad) text old new ends = ends
text_ends (Device NoMemory) text old new ends = ends
text_ends (Device NoMemoryAtStart) text old new ends = ends
text_ends (Device Unwritable) text old new ends = ends
text_ends (Device (Unreadable kind)) text old new ends = absurd ends
text_ends (Device TooLong) text old new ends = absurd ends

-- ---- which line is the first bad one
-- what was noted while the text was read says so of the text
pub noted_of_text : (text : List ℕ) (wrong : Option ℕ) (last : ℕ) (s : Settings) (first : Option ℕ)
    → wrong ≡ scripts.first_misread text → last ≡ scripts.last_set text → s ≡ settings_of text
    → scripts.IsFirst wrong last s first → IsFirstBad text first
noted_of_text text wrong last s first w l e is =
    subst (λ x. scripts.IsFirst x (scripts.last_set text) (settings_of text) first) w
    (subst (λ x. scripts.IsFirst wrong x (settings_of text) first) l (subst (λ x. scripts.IsFirst wrong last x first) e is))

-- ---- when the commands ran
-- what is promised of all that any calls make of a first world
pub record Promises (config : WorldConfig) : Type 0 where
  pub keeps : (outboxes inboxes : FileMap × FileMap) (first now : WorldState)
      → IsFirst config outboxes inboxes first → Led first now → KeepsPromises inboxes now
  pub completes : (outboxes inboxes : FileMap × FileMap) (first now : WorldState)
      → IsFirst config outboxes inboxes first → Led first now → IsSettled now → IsClean now → AllComplete now
  pub config_stays : (outboxes inboxes : FileMap × FileMap) (first now : WorldState)
      → IsFirst config outboxes inboxes first → Led first now → (s : Side) → (entity_at s now).config ≡ (entity_at s first).config

module _ (text : List ℕ) (old new : Option (List ℕ)) (law : Promises (world_of (settings_of text))) where
  -- the world that the commands left
  kept_to_end : (first : WorldState)
      → IsFirst (world_of (settings_of text)) (outbox_of One (files_of text), outbox_of Two (files_of text)) (empty, empty) first
      → (ran : RunsAll (steps_of text) first) → KeepsPromises (empty, empty) ran.last
  kept_to_end first starts ran = law.keeps _ _ first ran.last starts (runs_lead (steps_of text) ran.answered first ran.last ran.runs)

  -- if all went well, as many puts are completed as were asked for
  completed_to_end : (first : WorldState)
      → IsFirst (world_of (settings_of text)) (outbox_of One (files_of text), outbox_of Two (files_of text)) (empty, empty) first
      → (ran : RunsAll (steps_of text) first) → IsSettled ran.last → IsClean ran.last → AreAccepted (steps_of text) ran.answered
      → puts_completed ran.last ≡ puts_asked (steps_of text)
  completed_to_end first starts ran settled clean accepted =
      let led : Led first ran.last = runs_lead (steps_of text) ran.answered first ran.last ran.runs in
      let stays : (s : Side) → (entity_at s ran.last).config ≡ (entity_at s first).config = law.config_stays _ _ first ran.last starts led in
      let one : (entity_at One ran.last).config.entity ≡ 1 = ap (λ (c : EntityConfig). c.entity) (stays One ∙ ap (λ (e : EntityState). e.config) starts.one.entity) in
      let two : (entity_at Two ran.last).config.entity ≡ 2 = ap (λ (c : EntityConfig). c.entity) (stays Two ∙ ap (λ (e : EntityState). e.config) starts.two.entity) in
      completed-all ran.last one two (kept_to_end first starts ran) (law.completes _ _ first ran.last starts led settled clean)
      ∙ puts-all (steps_of text) ran.answered first ran.last ran.runs accepted starts.puts

  -- what starts here and ran so, ran as the script says
  ran_script : (first : WorldState) → IsFirstBad text None
      → IsFirst (world_of (settings_of text)) (outbox_of One (files_of text), outbox_of Two (files_of text)) (empty, empty) first
      → RunsAll (steps_of text) first → RunsScript text
  ran_script first good starts ran = record {
    good = good;
    first = first;
    starts = starts;
    ran = ran;
    promised = kept_to_end first starts ran;
    completed = completed_to_end first starts ran;
  }

  -- and ended the script so
  run_to_end : (exit : Exit) (first : WorldState) → IsFirstBad text None
      → IsFirst (world_of (settings_of text)) (outbox_of One (files_of text), outbox_of Two (files_of text)) (empty, empty) first
      → EndsRun exit (steps_of text) first old new → EndsText exit text old new
  unfolding ran_script
  run_to_end Complete first good starts ran = (ran_script first good starts ran.0, ran.1)
  run_to_end Incomplete first good starts ran = (ran_script first good starts ran.0, ran.1)
  run_to_end (BadScript bad) first good starts ran = absurd ran
  run_to_end (Device NoMemory) first good starts ran = (ran_script first good starts ran.0, ran.1)
  run_to_end (Device NoMemoryAtStart) first good starts ran = tt
  run_to_end (Device Unwritable) first good starts ran = ran_script first good starts ran
  run_to_end (Device (Unreadable kind)) first good starts ran = absurd ran
  run_to_end (Device TooLong) first good starts ran = absurd ran

  run_silent : (exit : Exit) (first : WorldState) → EndsRun exit (steps_of text) first old new → IsSilentAt exit old new
  run_silent Complete first ran = tt
  run_silent Incomplete first ran = tt
  run_silent (BadScript bad) first ran = absurd ran
  run_silent (Device NoMemory) first ran = tt
  run_silent (Device NoMemoryAtStart) first ran = ran
  run_silent (Device Unwritable) first ran = tt
  run_silent (Device (Unreadable kind)) first ran = absurd ran
  run_silent (Device TooLong) first ran = absurd ran

  abbrev EndsFromText : Exit → Type 0
  EndsFromText exit = EndsFrom exit (world_of (settings_of text)) (files_of text) (steps_of text) old new

  pub commands_end : (exit : Exit) → IsFirstBad text None → EndsFromText exit → EndsText exit text old new
  commands_end exit good ends = ⊎_elim
      (λ none. subst (λ (e : Exit). EndsText e text old new) (sym none.0) tt)
      (λ ran. run_to_end exit ran.0 good ran.1 ran.2) ends

  pub commands_silent : (exit : Exit) → EndsFromText exit → IsSilentAt exit old new
  commands_silent exit ends = ⊎_elim
      (λ none. subst (λ (e : Exit). IsSilentAt e old new) (sym none.0) none.1)
      (λ ran. run_silent exit ran.0 ran.2) ends

-- a script that was read as it is, and whose commands ended so
pub read_commands_end : (text : List ℕ) (old new : Option (List ℕ)) (exit : Exit) (config : WorldConfig) (files : List FileLine) (steps : List Step)
    → Promises config → config ≡ world_of (settings_of text) → files ≡ files_of text → steps ≡ steps_of text → IsFirstBad text None
    → EndsFrom exit config files steps old new → EndsText exit text old new × IsSilentAt exit old new
read_commands_end text old new exit config files steps law c f s good ends =
    let promises : Promises (world_of (settings_of text)) = subst Promises c law in
    let same : EndsFromText text old new promises exit = rw (c, f, s) at ends in
    (commands_end text old new promises exit good same, commands_silent text old new promises exit same)
