-- What the report of a script says.
use Rattle.std.specs.Prelude.{ℕ, ◌+◌, List, [], ◌∷◌, ◌++◌, length, codes, count_by, decimal, sum_by}
use Rattle.std.specs.FinMap.{entries}
use Rattle.std.specs.List.{flat_map}
use Rattle.cfdp_directives.specs.Pdu.Checksum.{modular_checksum}
use Rattle.link_sim.specs.World.State.{WorldState}
use Rattle.station_pair.specs.declared.side.Side.TheVariants.{One, Two}
use Rattle.cfdp_report.specs.Report.Name.{name_text}
use Rattle.cfdp_report.specs.Numbers.{hex_number_text}
use Rattle.cfdp_report.specs.Report.Lines.{answer_line, count_line, indication_line, is_own_completion}
use Rattle.cfdp_report.specs.declared.report.answer.Answered.{Answered}
use Rattle.cfdp_script.specs.Script.Run.{puts_in, received, told}
use Rattle.cfdp_script.specs.declared.script.Step.{Step}

-- ---- lines of files
-- a file that station S received: its name, its octets and their modular checksum
abbrev pub inbox_line : ℕ → List ℕ × List ℕ → List ℕ
inbox_line station (name, octets) =
    codes "inbox " ++ decimal station ++ codes " " ++ name_text name ++ codes " "
    ++ decimal (length octets) ++ codes " " ++ hex_number_text (modular_checksum octets) ++ 10 ∷ []

-- ---- the count of puts
-- how many puts were indicated as complete to their senders
abbrev pub puts_completed : WorldState → ℕ
puts_completed w =
    count_by (is_own_completion 1) (told One w) + count_by (is_own_completion 2) (told Two w)

-- how many puts a script asks for
abbrev pub puts_asked : List Step → ℕ
puts_asked steps = sum_by puts_in steps

-- ---- the whole report
-- of so many puts asked for, of commands with these answers, and of the world that they left
abbrev pub report_text : ℕ → List Answered → WorldState → List ℕ
report_text all answered w =
    flat_map answer_line answered
    ++ flat_map (indication_line 1) (told One w)
    ++ flat_map (indication_line 2) (told Two w)
    ++ flat_map (inbox_line 1) (entries (received One w))
    ++ flat_map (inbox_line 2) (entries (received Two w))
    ++ count_line (puts_completed w) all
