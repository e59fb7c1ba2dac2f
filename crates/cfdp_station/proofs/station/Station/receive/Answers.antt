use Rattle.cfdp_station.proofs.Takes.{takes_frame}
use Rattle.cfdp_station.proofs.station.Station.receive.Goals as goal

pub returns : goal.returns
returns g c =
    let i = c.self.inside in
    takes_frame c.args.frame.now i.entity c.hear_all.new.entity i.down i.up c.receive.new.self c.clear.new.self
    c.receive.new.out c.clear.ensures c.receive.ensures.taken c.receive.ensures.other c.receive.ensures.lane
    c.hear_all.ensures c.args.self.now c.self.view_is
