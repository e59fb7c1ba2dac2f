use Rattle.cfdp_log.proofs.LogLines.{end_told}
use Rattle.cfdp_log.proofs.station_log.telling.tell_end.Goals as goal

pub returns-in_ok-write_count-in-Text : goal.returns-in_ok-write_count-in-Text
returns-in_ok-write_count-in-Text g c =
    end_told c.write_line.result c.args.log.style c.args.log.own c.args.figures.totals.now.complete c.args.figures.totals.now.asked _ _ _ _
    c.in-Text.is c.in_ok-write_count-in-Text.ensures (rw c.as_slice.ensures.value at c.write_line.ensures)
