use Rattle.std.proofs.Common.{◌≡◌, ◌∙◌, ap}
use Rattle.cfdp_script.specs.Script.Lines.{lines_of, files_of, steps_of, settings_of, last_set, first_misread}
use Rattle.cfdp_script.specs.Script.Gathering.{gathered, at_start}
use Rattle.cfdp_script.proofs.Gathers.{gathers, early_of}
use Rattle.cfdp_script.proofs.script.Script.parse.Goals as goal
use Rattle.cfdp_script.proofs.script.Script.parse.Goals.{In_ok-read_lines}

-- what was gathered is what the text says
all : (c : In_ok-read_lines) → gathered c.read_lines.new.self ≡ early_of at_start (lines_of c.args.text.now)
all c = rw (c.new.ensures.items, c.new-2.ensures.items) at c.in_ok-read_lines.ensures ∙ gathers c.args.text.now

pub returns-clause-files : goal.returns-clause-files
unfolding files_of
returns-clause-files c = ap (λ g. g.files) (all c)

pub returns-clause-steps : goal.returns-clause-steps
unfolding steps_of
returns-clause-steps c = ap (λ g. g.steps) (all c)

pub returns-clause-settings : goal.returns-clause-settings
unfolding settings_of
returns-clause-settings c = ap (λ g. g.settings) (all c)

pub returns-clause-last : goal.returns-clause-last
unfolding last_set
returns-clause-last c = ap (λ g. g.last) (all c)

pub returns-clause-misread : goal.returns-clause-misread
unfolding first_misread
returns-clause-misread c = ap (λ g. g.wrong) (all c)
