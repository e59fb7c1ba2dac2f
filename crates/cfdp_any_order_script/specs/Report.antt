-- What the report of a script over any link says.
use Rattle.std.specs.Prelude.{ℕ, ◌+◌, ◌==◌, List, [], ◌∷◌, ◌++◌, count_by, if◌then◌else◌}
use Rattle.std.specs.FinMap.{entries}
use Rattle.std.specs.List.{flat_map, list_any}
use Rattle.station_pair.specs.declared.side.Side.TheVariants.{One, Two}
use Rattle.any_order.specs.World.{WorldKept}
use Rattle.cfdp_report.specs.Report.Lines.{count_line, indication_line, is_own_completion}
use Rattle.cfdp_report.specs.declared.exit.Exit.{Exit}
use Rattle.cfdp_report.specs.declared.exit.Exit.TheVariants.{Complete, Incomplete, Device}
use Rattle.cfdp_report.specs.declared.exit.Fault.TheVariants.{NoMemory}
use Rattle.cfdp_script.specs.Script.Report.{inbox_line}
use Rattle.cfdp_any_order_script.specs.declared.answer.Answered.{Answered}
use Rattle.cfdp_any_order_script.specs.Answers.{answer_line, is_device_fault}
use Rattle.cfdp_any_order_script.specs.Told.{received, told_ever}

-- how many puts were indicated as complete to their senders, in all their lives
abbrev pub puts_completed : WorldKept → ℕ
puts_completed w =
    count_by (is_own_completion 1) (told_ever One w)
    + count_by (is_own_completion 2) (told_ever Two w)

-- the whole report, of so many puts asked for, of commands with these answers, and of the world
-- that they left: as the report of another script, of all lives
abbrev pub report_text : ℕ → List Answered → WorldKept → List ℕ
report_text all answered w =
    flat_map answer_line answered
    ++ flat_map (indication_line 1) (told_ever One w)
    ++ flat_map (indication_line 2) (told_ever Two w)
    ++ flat_map (inbox_line 1) (entries (received One w))
    ++ flat_map (inbox_line 2) (entries (received Two w))
    ++ count_line (puts_completed w) all

-- the exit, by what the commands answered, and how many of the puts were completed
abbrev pub exit_of : List Answered → (complete asked : ℕ) → Exit
exit_of answered complete asked =
    if list_any (λ done. is_device_fault done.answer) answered then Device NoMemory
    else if complete == asked then Complete else Incomplete
