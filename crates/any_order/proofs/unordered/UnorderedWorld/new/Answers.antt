use Rattle.std.proofs.Common.{subst}
use Rattle.station_pair.specs.Stations.{IsWorldConfig}
use Rattle.any_order.proofs.Beginning.{begins}
use Rattle.any_order.proofs.unordered.UnorderedWorld.new.Goals as goal

pub invariant_of-result : goal.invariant_of-result
invariant_of-result g c =
    begins c.args.config _ _ c.in_ok-ends.ends (subst IsWorldConfig c.get-config.ensures.is c.get-config.ensures.valid) c.show_spacecraft.ensures.one c.show_spacecraft.ensures.two c.in_ok-ends.ensures
