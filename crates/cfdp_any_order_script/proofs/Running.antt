-- Commands done one after another, and how a run ends.
use Rattle.std.proofs.Common.{◌≡◌, ℕ, List, [], ◌∷◌, ◌++◌, Option, Bool, true, false, ◌==◌, if◌then◌else◌, refl, subst, sym}
use Rattle.std.specs.Io.KnownBytes.{Appends}
use Rattle.std.specs.List.{list_any}
use Rattle.station_pair.specs.declared.world_config.WorldConfig.{WorldConfig}
use Rattle.any_order.specs.World.{KeepsPromise}
use Rattle.cfdp_report.specs.declared.exit.Exit.{Exit}
use Rattle.cfdp_report.specs.declared.exit.Exit.TheVariants.{Complete, Incomplete, Device}
use Rattle.cfdp_report.specs.declared.exit.Fault.TheVariants.{NoMemory}
use Rattle.cfdp_script.specs.Script.Report.{puts_asked}
use Rattle.cfdp_script.specs.declared.script.command.FileLine.{FileLine}
use Rattle.cfdp_script.specs.declared.script.Step.{Step}
use Rattle.cfdp_any_order_script.specs.Answers.{is_device_fault}
use Rattle.cfdp_any_order_script.specs.Performing.{Performs, PlayState, Runs}
use Rattle.cfdp_any_order_script.specs.Report.{exit_of, puts_completed, report_text}
use Rattle.cfdp_any_order_script.specs.Simulated.{EndsRun, IsFirst, RunsAll, RunsTold}
use Rattle.cfdp_any_order_script.specs.declared.answer.Answered.{Answered}

-- one more command is done
pub one_more_done : (steps : List Step) (all : List Answered) (step : Step) (done : Answered) (old mid new : PlayState)
    → Runs steps all old mid → done.line ≡ step.line → Performs step.command done.answer mid new → Runs (steps ++ step ∷ []) (all ++ done ∷ []) old new
one_more_done [] [] step done old mid new before line does = (line, new, subst (λ w. Performs step.command done.answer w new) before does, refl)
one_more_done [] (d ∷ all) step done old mid new before line does = absurd before
one_more_done (s ∷ steps) [] step done old mid new before line does = absurd before
one_more_done (s ∷ steps) (d ∷ all) step done old mid new before line does =
    (before.0, before.1, before.2, one_more_done steps all step done before.1 mid new before.3 line does)

-- ---- the end of a run

ends_picked : (fault all : Bool) (c : WorldConfig) (files : List FileLine) (steps : List Step) (old new : Option (List ℕ))
    → ((e : Exit) → e ≡ (if fault then Device NoMemory else if all then Complete else Incomplete) → RunsTold c files steps e old new)
    → EndsRun (if fault then Device NoMemory else if all then Complete else Incomplete) c files steps old new
ends_picked true all c files steps old new ran = ran (Device NoMemory) refl
ends_picked false true c files steps old new ran = ran Complete refl
ends_picked false false c files steps old new ran = ran Incomplete refl

-- what a run did, if the promise holds of it
pub run_all : (c : WorldConfig) (files : List FileLine) (steps : List Step) (first last : PlayState) (answered given : List Answered)
    → IsFirst c files first → Runs steps answered first last → given ≡ answered → KeepsPromise last.world → RunsAll c files steps
run_all c files steps first last answered given starts runs same promised = record {
  first = first;
  starts = starts;
  answered = given;
  last = last;
  runs = subst (λ (a : List Answered). Runs steps a first last) (sym same) runs;
  promised = promised;
}

-- a run whose report was written ended as its exit says
pub run_ended : (exit : Exit) (c : WorldConfig) (files : List FileLine) (steps : List Step) (ran : RunsAll c files steps) (asked : ℕ) (old new : Option (List ℕ)) → asked ≡ puts_asked steps
    → exit ≡ exit_of ran.answered (puts_completed ran.last.world) asked → Appends old new (report_text asked ran.answered ran.last.world) → EndsRun exit c files steps old new
run_ended exit c files steps ran asked old new is ends written =
    let fault : Bool = list_any (λ done. is_device_fault done.answer) ran.answered in
    let all : Bool = puts_completed ran.last.world == puts_asked steps in
    let ended : exit ≡ exit_of ran.answered (puts_completed ran.last.world) (puts_asked steps) = subst (λ (n : ℕ). exit ≡ exit_of ran.answered (puts_completed ran.last.world) n) is ends in
    let report : Appends old new (report_text (puts_asked steps) ran.answered ran.last.world) = subst (λ (n : ℕ). Appends old new (report_text n ran.answered ran.last.world)) is written in
    subst (λ e. EndsRun e c files steps old new) (sym ended) (ends_picked fault all c files steps old new (λ e same. (ran, same, report)))

pub run_done : (exit : Exit) (c : WorldConfig) (files : List FileLine) (steps : List Step) (first last : PlayState) (answered given : List Answered) (asked : ℕ) (old new : Option (List ℕ))
    → IsFirst c files first → Runs steps answered first last → given ≡ answered → KeepsPromise last.world → asked ≡ puts_asked steps
    → exit ≡ exit_of given (puts_completed last.world) asked → Appends old new (report_text asked given last.world) → EndsRun exit c files steps old new
run_done exit c files steps first last answered given asked old new starts runs same promised is ends written =
    let ran : RunsAll c files steps = record {
      first = first;
      starts = starts;
      answered = given;
      last = last;
      runs = subst (λ (a : List Answered). Runs steps a first last) (sym same) runs;
      promised = promised;
    } in
    run_ended exit c files steps ran asked old new is ends written

-- a report that is made is that of a run, wherever it is written
pub run_told : (exit : Exit) (c : WorldConfig) (files : List FileLine) (steps : List Step) (first last : PlayState) (answered given : List Answered) (asked : ℕ) (text : List ℕ)
    → IsFirst c files first → Runs steps answered first last → given ≡ answered → KeepsPromise last.world → asked ≡ puts_asked steps
    → exit ≡ exit_of given (puts_completed last.world) asked → text ≡ report_text asked given last.world → (old new : Option (List ℕ)) → Appends old new text → EndsRun exit c files steps old new
run_told exit c files steps first last answered given asked text starts runs same promised is ends made old new written =
    run_done exit c files steps first last answered given asked old new starts runs same promised is ends (subst (λ (t : List ℕ). Appends old new t) made written)
