use Rattle.std.proofs.Common.{subst, sym}
use Rattle.link_sim.specs.Running.{AreApart}
use Rattle.station_pair.specs.Stations.{IsWorldConfig}
use Rattle.link_sim.specs.World.State.{WorldState}
use Rattle.link_sim.proofs.world.World.new.Goals as goal

pub invariant_of-result : goal.invariant_of-result
invariant_of-result g c =
    let made = c.in_ok-stations.ensures in
    let valid = subst IsWorldConfig c.get-config.ensures.is c.get-config.ensures.valid in (
      c.events_keep_the_promises.ensures.first c.args.config _ _ c.in_ok-stations.stations valid made.first made.ways,
      c.events_keep_the_promises.ensures.puts_first c.args.config _ _ c.in_ok-stations.stations made.first,
    )

pub returns-clause-promised : goal.returns-clause-promised
returns-clause-promised g c =
    let law = c.events_keep_the_promises.ensures in
    let made = c.in_ok-stations.ensures in
    let w : WorldState = c.in_ok-stations.stations in
    let valid = subst IsWorldConfig c.get-config.ensures.is c.get-config.ensures.valid in
    record {
      inbox = λ s. law.inboxes c.args.config _ _ w s valid made.first;
      holds = λ s. law.holds w s (law.first c.args.config _ _ w valid made.first made.ways);
      apart = subst AreApart (sym made.first.puts) tt;
    }

pub returns-clause-clean : goal.returns-clause-clean
returns-clause-clean g c = c.events_keep_the_promises.ensures.clean_first c.args.config _ _ c.in_ok-stations.stations c.in_ok-stations.ensures.first
