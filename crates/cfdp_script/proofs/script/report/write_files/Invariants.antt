use Rattle.std.proofs.Common.{map}
use Rattle.std.specs.List.{flat_map}
use Rattle.cfdp_script.specs.Script.Report.{inbox_line}
use Rattle.cfdp_script.proofs.Reports.{IsPart}
use Rattle.cfdp_script.proofs.script.report.write_files.Given as goal

-- what is written with the lines of the files that are left is all
abbrev pub invariant-loop-name : goal.invariant-loop-name
invariant-loop-name g l =
    IsPart (g.W.Write.contents l.initial.out) (g.W.Write.contents l.out)
    (flat_map (inbox_line l.station) (map (λ e. (e.0.items, e.1.items)) l.name-iterator))
    (flat_map (inbox_line l.station) (map (λ e. (e.0.items, e.1.items)) l.files.entries))
