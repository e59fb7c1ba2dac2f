use Rattle.std.proofs.Common.{arith}
use Rattle.std.proofs.lemmas.List.{drop_all}
use Rattle.cfdp_station.proofs.Hears.{hears_one, hears_none}
use Rattle.cfdp_station.proofs.moving.hear_all.Goals as goal

pub loop-place-preserved : goal.loop-place-preserved
loop-place-preserved g c end more =
    c.loop-place.invariant end (hears_one c.args.pdus.now c.loop-place.place c.get.result.now c.loop-place.entity c.hear_one.new.entity end (omega (arith))
    c.get.ensures c.hear_one.ensures more)

pub returns : goal.returns
returns g c = c.loop-place.invariant c.loop-place.entity (hears_none _ _ (drop_all c.loop-place.place c.args.pdus.now (omega arith)))
