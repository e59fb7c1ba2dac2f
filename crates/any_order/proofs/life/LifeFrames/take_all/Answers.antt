use Rattle.std.proofs.Common.{[], ◌∷◌, ◌++◌}
use Rattle.any_order.proofs.Numbers.{gives_more}
use Rattle.any_order.proofs.life.LifeFrames.take_all.Goals as goal

pub loop-preserved : goal.loop-preserved
loop-preserved g c =
    let one = c.in_ok-take_next.ensures.some cc in
    let before = c.loop.invariant in
    (before.0 ++ one.0 ∷ [], gives_more before.0 one.0 c.args.station.now c.loop.station c.take_next.new.station c.args.self.now c.loop.self c.take_next.new.self before.1 one.1 one.2)
