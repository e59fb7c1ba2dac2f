use Rattle.cfdp_watch.proofs.Charts.{arrow_written, front_drawn}
use Rattle.cfdp_watch.proofs.chart.write_arrow.Goals as goal

pub returns : goal.returns
returns g c =
    let s = c.args.sighting.now in
    arrow_written _ c.args.shapes s _ _ _ c.write_deed.new.out.items
    (rw c.new-deed.ensures.items at c.in_ok-write_deed.ensures)
    (front_drawn s _ _ c.arrow-arrow.result.now c.arrow-arrow.ensures c.in_ok-write.ensures.bytes)
    (rw c.as_slice.ensures.value at c.write-2.ensures.bytes)
