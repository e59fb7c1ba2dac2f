-- What each field of a configuration must be, so that a world can be set up so.
use Rattle.std.specs.Prelude.{◌≡◌}
use Rattle.cfdp_station.specs.Fields as station
use Rattle.station_pair.specs.declared.world_config.WorldConfig.{WorldConfig}
use Rattle.station_pair.specs.declared.world_config.WorldField.{WorldField}
use Rattle.station_pair.specs.declared.world_config.WorldField.TheVariants as worlds

abbrev pub Fits : WorldField → WorldConfig → Type 0
Fits (worlds.One field) c = station.Fits field c.one
Fits (worlds.Two field) c = station.Fits field c.two
Fits worlds.Peers c =
    (c.one.entity.entity ≡ c.two.entity.peer) × (c.one.entity.peer ≡ c.two.entity.entity)
Fits worlds.Links c = (c.one.sends ≡ c.two.receives) × (c.one.receives ≡ c.two.sends)
