use Rattle.std.proofs.Common.{map, ap}
use Rattle.std.specs.List.{flat_map}
use Rattle.std.specs.Map.Iter.{deref_pair}
use Rattle.std.proofs.lemmas.Map.Iter.{rest_more}
use Rattle.cfdp_script.specs.Script.Report.{inbox_line}
use Rattle.cfdp_script.proofs.Reports.{one_more}
use Rattle.cfdp_script.proofs.script.report.write_files.Goals as goal

pub loop-name-preserved : goal.loop-name-preserved
loop-name-preserved g c =
    let next = rest_more deref_pair _ _ _ (c.in-Some.name, c.in-Some.octets) c.in-Some.is c.next.ensures.steps in
    one_more _ _ _ _ _ _ _ (ap (λ left. flat_map (inbox_line c.args.station) (map (λ e. (e.0.items, e.1.items)) left)) next) c.loop-name.invariant
    (rw (c.as_slice.ensures.value, c.as_slice-in-loop-name.ensures.value) at c.in_ok-write_file.ensures)
