use Rattle.cfdp_station.proofs.Hears.{hears_either}
use Rattle.cfdp_station.proofs.moving.hear_one.Goals as goal

pub returns : goal.returns
returns g c = hears_either c.receive.result c.args.pdu.now c.args.entity.now c.receive.new.self c.receive.ensures.heard c.receive.ensures.dropped
