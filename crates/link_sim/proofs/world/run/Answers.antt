use Rattle.std.proofs.Common.{subst}
use Rattle.station_pair.specs.Stations.{IsWorldConfig}
use Rattle.link_sim.proofs.Events.Happening.{happens-led}
use Rattle.link_sim.proofs.world.run.Goals as goal

pub returns-in-Ok-clause-promised : goal.returns-in-Ok-clause-promised
returns-in-Ok-clause-promised g c =
    let valid = subst IsWorldConfig c.get-config.ensures.is c.get-config.ensures.valid in
    c.worlds_keep_the_promises.ensures.keeps c.args.config _ _ c.in_ok-world.world c.apply_all.new.world valid c.in_ok-world.ensures.first
    (happens-led c.args.events.now c.in_ok-world.world c.apply_all.new.world c.in-Ok.ensures)
