-- What is gathered line by line is what the text says.
use Rattle.std.proofs.Common.{◌≡◌, ◌∙◌, ℕ, List, [], ◌∷◌, ◌++◌, not, refl, ap, append-nil, append_assoc, Option, Some, None, if◌then◌else◌}
use Rattle.std.specs.Prelude.{fold}
use Rattle.std.specs.Option.{option_or}
use Rattle.std.specs.List.{filter_map, cons_option}
use Rattle.cfdp_script.specs.declared.script.command.Line.{Line}
use Rattle.cfdp_script.specs.declared.script.command.Line.TheVariants as line
use Rattle.cfdp_script.specs.declared.script.Step.{Step}
use Rattle.cfdp_report.specs.Settings.{set_value}
use Rattle.cfdp_report.specs.Words.{parts, without_return}
use Rattle.cfdp_script.specs.Script.Lines.{ReadLine, read_line, numbered, line_of, lines_of, is_skipped, is_command, front, first_where, misread, file_in, step_in, set_in, is_set}
use Rattle.cfdp_script.specs.Script.Gathering.{Gathered, at_start, noted, before, taken, gather}
use Rattle.cfdp_report.proofs.Numerals.{by_test}

-- ---- lines that are skipped do nothing

abbrev pub gather_read : Gathered → List ReadLine → Gathered
gather_read g [] = g
gather_read g (l ∷ rest) = gather_read (taken g l.0 l.1) rest

skipped : (g : Gathered) (ls : List (ℕ × List ℕ)) → gather g ls ≡ gather_read g (filter_map read_line ls)
skipped g [] = refl
skipped g (l ∷ ls) =
    let text = without_return l.1 in
    by_test (is_skipped text) (λ b. gather (if b then g else taken g l.0 (line_of text)) ls ≡ gather_read g (cons_option (if b then None else Some (l.0, line_of text)) (filter_map read_line ls)))
    (λ _. skipped g ls) (λ _. skipped (taken g l.0 (line_of text)) ls)

or-none : (w : Option ℕ) → option_or w None ≡ w
or-none None = refl
or-none (Some n) = refl

or-some : (w : Option ℕ) (n : ℕ) (x : Option ℕ) → option_or (option_or w (Some n)) x ≡ option_or w (Some n)
or-some None n x = refl
or-some (Some m) n x = refl

-- ---- after a command

before-late : {A : Type 0} (steps : List Step) (first : Step) (more : List Step) (a b : A) → steps ≡ first ∷ more → before steps a b ≡ b
before-late steps first more a b some = rw some refl

abbrev late_of : Gathered → List ReadLine → Gathered
late_of g rs = record {
  files = g.files;
  steps = g.steps ++ filter_map (λ l. step_in l.0 l.1) rs;
  settings = g.settings;
  last = g.last;
  wrong = option_or g.wrong (first_where (λ meant. not (is_command meant)) rs);
}

abbrev Late : List ReadLine → Type 0
Late rs = (g : Gathered) (first : Step) (more : List Step) → g.steps ≡ first ∷ more → gather_read g rs ≡ late_of g rs

late-step : (number : ℕ) (meant : Option Line) (rs : List ReadLine) → Late rs → Late ((number, meant) ∷ rs)
late-step number None rs more_lines g first more some =
    more_lines (noted g number) first more some ∙ rw or-some refl
late-step number (Some (line.Command command)) rs more_lines g first more some =
    let step : Step = record { line = number; command = command } in
    more_lines (record g { steps = g.steps ++ step ∷ [] }) first (more ++ step ∷ []) (ap (λ s. s ++ step ∷ []) some) ∙ rw append_assoc refl
late-step number (Some (line.File file)) rs more_lines g first more some =
    ap (λ h. gather_read h rs) (before-late g.steps first more (record g { files = g.files ++ file ∷ [] }) (noted g number) some)
    ∙ more_lines (noted g number) first more some ∙ rw or-some refl
late-step number (Some (line.Set setting value)) rs more_lines g first more some =
    ap (λ h. gather_read h rs) (before-late g.steps first more (record g { settings = set_value g.settings setting value; last = number }) (noted g number) some)
    ∙ more_lines (noted g number) first more some ∙ rw or-some refl

late : (rs : List ReadLine) → Late rs
late [] g first more some = rw (append-nil g.steps, or-none g.wrong) refl
late (l ∷ rs) g first more some = late-step l.0 l.1 rs (late rs) g first more some

-- ---- before any command

before-early : {A : Type 0} (steps : List Step) (a b : A) → steps ≡ [] → before steps a b ≡ a
before-early steps a b none = rw none refl

abbrev pub early_of : Gathered → List ReadLine → Gathered
early_of g rs = record {
  files = g.files ++ filter_map (λ l. file_in l.1) (front rs);
  steps = filter_map (λ l. step_in l.0 l.1) rs;
  settings = fold (λ s l. set_in s l.1) g.settings (front rs);
  last = fold (λ number l. if is_set l.1 then l.0 else number) g.last (front rs);
  wrong = option_or g.wrong (misread rs);
}

abbrev Early : List ReadLine → Type 0
Early rs = (g : Gathered) → g.steps ≡ [] → gather_read g rs ≡ early_of g rs

early-step : (number : ℕ) (meant : Option Line) (rs : List ReadLine) → Early rs → Early ((number, meant) ∷ rs)
early-step number None rs more_lines g none = more_lines (noted g number) none ∙ rw or-some refl
early-step number (Some (line.Command command)) rs more_lines g none =
    let step : Step = record { line = number; command = command } in
    late rs (record g { steps = g.steps ++ step ∷ [] }) step [] (ap (λ s. s ++ step ∷ []) none) ∙ rw (none, append-nil g.files) refl
early-step number (Some (line.File file)) rs more_lines g none =
    ap (λ h. gather_read h rs) (before-early g.steps (record g { files = g.files ++ file ∷ [] }) (noted g number) none)
    ∙ more_lines (record g { files = g.files ++ file ∷ [] }) none ∙ rw append_assoc refl
early-step number (Some (line.Set setting value)) rs more_lines g none =
    ap (λ h. gather_read h rs) (before-early g.steps (record g { settings = set_value g.settings setting value; last = number }) (noted g number) none)
    ∙ more_lines (record g { settings = set_value g.settings setting value; last = number }) none

early : (rs : List ReadLine) → Early rs
early [] g none = rw (append-nil g.files, or-none g.wrong) (ap (λ s. record g { steps = s }) none)
early (l ∷ rs) g none = early-step l.0 l.1 rs (early rs) g none

-- what a whole text gives
pub gathers : (text : List ℕ) → gather at_start (numbered 1 (parts 10 text)) ≡ early_of at_start (lines_of text)
gathers text = skipped at_start (numbered 1 (parts 10 text)) ∙ early (lines_of text) at_start refl
