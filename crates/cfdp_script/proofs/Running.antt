-- Commands done one after another, and files put into outboxes one after another.
use Rattle.std.proofs.Common.{◌≡◌, ℕ, List, [], ◌∷◌, ◌++◌, Option, Bool, true, false, ◌==◌, if◌then◌else◌, refl, subst, sym}
use Rattle.link_sim.specs.World.State.{WorldState}
use Rattle.cfdp_report.specs.declared.report.answer.Answered.{Answered}
use Rattle.cfdp_script.specs.declared.script.Step.{Step}
use Rattle.std.specs.Io.KnownBytes.{Appends}
use Rattle.std.specs.List.{list_any}
use Rattle.cfdp_report.specs.declared.exit.Exit.{Exit}
use Rattle.cfdp_report.specs.declared.exit.Exit.TheVariants.{Complete, Incomplete, Device}
use Rattle.cfdp_report.specs.declared.exit.Fault.TheVariants.{NoMemory}
use Rattle.cfdp_report.specs.Report.Answers.{is_device_fault}
use Rattle.cfdp_script.specs.Script.Ending.{EndsRun, RunsAll, RunsTold, exit_of}
use Rattle.cfdp_script.specs.Script.Report.{puts_asked, puts_completed, report_text}
use Rattle.cfdp_script.specs.Script.Run.{Performs, Runs}

-- one more command is done
pub one_more_done : (steps : List Step) (all : List Answered) (step : Step) (done : Answered) (old mid new : WorldState)
    → Runs steps all old mid → done.line ≡ step.line → Performs step.command done.answer mid new → Runs (steps ++ step ∷ []) (all ++ done ∷ []) old new
one_more_done [] [] step done old mid new before line does = (line, new, subst (λ w. Performs step.command done.answer w new) before does, refl)
one_more_done [] (d ∷ all) step done old mid new before line does = absurd before
one_more_done (s ∷ steps) [] step done old mid new before line does = absurd before
one_more_done (s ∷ steps) (d ∷ all) step done old mid new before line does =
    (before.0, before.1, before.2, one_more_done steps all step done before.1 mid new before.3 line does)

-- ---- the end of a run
abbrev picked : Bool → Bool → Exit
picked fault all = if fault then Device NoMemory else if all then Complete else Incomplete

ends_picked : (fault all : Bool) (steps : List Step) (first : WorldState) (old new : Option (List ℕ))
    → ((e : Exit) → e ≡ picked fault all → RunsTold steps first e old new) → EndsRun (picked fault all) steps first old new
ends_picked true all steps first old new ran = ran (Device NoMemory) refl
ends_picked false true steps first old new ran = ran Complete refl
ends_picked false false steps first old new ran = ran Incomplete refl

-- a run whose report was written ended as its exit says
pub run_ended : (exit : Exit) (steps : List Step) (answered : List Answered) (first last : WorldState) (old new : Option (List ℕ))
    → Runs steps answered first last → exit ≡ exit_of answered (puts_completed last) (puts_asked steps)
    → Appends old new (report_text (puts_asked steps) answered last) → EndsRun exit steps first old new
run_ended exit steps answered first last old new runs ends written =
    let fault : Bool = list_any (λ done. is_device_fault done.answer) answered in
    let all : Bool = puts_completed last == puts_asked steps in
    let ran : (e : Exit) → e ≡ picked fault all → RunsTold steps first e old new =
    λ e same. (record { answered = answered; last = last; runs = runs }, record { ends = same; written = written }) in
    subst (λ e. EndsRun e steps first old new) (sym ends) (ends_picked fault all steps first old new ran)

-- one whose report couldn't be written ran all the same
pub run_unwritten : (steps : List Step) (answered : List Answered) (first last : WorldState) → Runs steps answered first last → RunsAll steps first
run_unwritten steps answered first last runs = record { answered = answered; last = last; runs = runs }
