use Rattle.std.proofs.Common.{take}
use Rattle.std.specs.Io.KnownBytes.{Appends}
use Rattle.std.specs.List.{flat_map}
use Rattle.cfdp_report.specs.Report.Lines.{indication_line}
use Rattle.cfdp_report.proofs.report.write_indications.Given as goal

-- the lines so far are written
abbrev pub invariant-loop-indication : goal.invariant-loop-indication
invariant-loop-indication g l =
    Appends (g.W.Write.contents l.initial.out) (g.W.Write.contents l.out) (flat_map (indication_line l.station) (take l.indication-index l.all))
