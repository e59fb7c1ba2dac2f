use Rattle.cfdp_watch.specs.Trace.{TellsDeed, TellsSighting, sighting_front}
use Rattle.cfdp_dump.proofs.TextLines.{line_behind}
use Rattle.cfdp_watch.proofs.Traces.{front_written}
use Rattle.std.proofs.Common.{refl}
use Rattle.cfdp_watch.proofs.trace.write_sighting.Goals as goal

pub returns : goal.returns
returns g c =
    let s = c.args.sighting.now in
    line_behind (TellsDeed c.args.shapes s) (TellsSighting c.args.shapes s) _ (sighting_front s) _ _ _
    (λ words tells. record { deed = words; tells = tells; whole = refl })
    (front_written s _ _ c.entity-station.result c.entity-station.ensures c.in_ok-write.ensures.bytes)
    c.write_deed.ensures
