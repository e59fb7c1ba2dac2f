use Rattle.std.proofs.Common.{take}
use Rattle.std.specs.Fmt.{HasWritten, IsPlainFormatter}
use Rattle.std.specs.List.{flat_map}
use Rattle.cfdp_watch.specs.Chart.{drawn_octet}
use Rattle.cfdp_watch.proofs.chart.DrawnDisplay.fmt.Given as goal

-- the octets so far are written
abbrev pub invariant-loop-octet : goal.invariant-loop-octet
invariant-loop-octet g l =
    IsPlainFormatter l.initial.f
    → HasWritten g.W.Write.write_str_gives l.initial.f (flat_map drawn_octet (take l.octet-index l.octet-items)) l.f
