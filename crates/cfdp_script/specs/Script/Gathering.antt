-- Proof-only: how a script is read, line by line.
use Rattle.std.specs.Prelude.{ℕ, List, [], ◌∷◌, ◌++◌, if◌then◌else◌, Option, Some, None, option_map}
use Rattle.std.specs.Option.{option_or}
use Rattle.cfdp_script.specs.declared.script.command.FileLine.{FileLine}
use Rattle.cfdp_script.specs.declared.script.command.Line.{Line}
use Rattle.cfdp_script.specs.declared.script.command.Line.TheVariants as line
use Rattle.cfdp_script.specs.declared.script.Script.{Script}
use Rattle.cfdp_script.specs.declared.script.Step.{Step}
use Rattle.cfdp_report.specs.declared.settings.Settings.{Settings}
use Rattle.cfdp_report.specs.Settings.{default_settings, set_value}
use Rattle.cfdp_script.specs.Script.Lines.{is_skipped, line_of}
use Rattle.cfdp_report.specs.Words.{without_return}

-- What was read so far.
pub record Gathered : Type 0 where
  pub files : List FileLine
  pub steps : List Step
  pub settings : Settings
  pub last : ℕ
  pub wrong : Option ℕ

abbrev pub gathered : Script → Gathered
gathered s = record {
  files = s.files.items;
  steps = s.steps.items;
  settings = s.settings;
  last = s.last_set;
  wrong = option_map (λ bad. bad.line) s.first_bad;
}

abbrev pub at_start : Gathered
at_start = record { files = []; steps = []; settings = default_settings; last = 0; wrong = None }

-- a line is misread
abbrev pub noted : Gathered → ℕ → Gathered
noted g number = record g { wrong = option_or g.wrong (Some number) }

-- what is so before the first command, and what after it
abbrev pub before : {A : Type 0} → List Step → A → A → A
before [] a b = a
before (step ∷ steps) a b = b

abbrev pub taken : Gathered → ℕ → Option Line → Gathered
taken g number None = noted g number
taken g number (Some (line.Command command)) =
    record g { steps = g.steps ++ record { line = number; command = command } ∷ [] }
taken g number (Some (line.File file)) =
    before g.steps (record g { files = g.files ++ file ∷ [] }) (noted g number)
taken g number (Some (line.Set setting value)) =
    before g.steps (record g { settings = set_value g.settings setting value; last = number })
    (noted g number)

abbrev pub read_cut : Gathered → ℕ → List ℕ → Gathered
read_cut g number text = if is_skipped text then g else taken g number (line_of text)

abbrev pub read_into : Gathered → ℕ → List ℕ → Gathered
read_into g number text = read_cut g number (without_return text)

abbrev pub gather : Gathered → List (ℕ × List ℕ) → Gathered
gather g [] = g
gather g (l ∷ rest) = gather (read_into g l.0 l.1) rest
