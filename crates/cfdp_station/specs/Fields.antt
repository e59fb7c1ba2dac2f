-- What each field of a configuration must be, so that a station can be set up so.
use Rattle.std.specs.Prelude.{◌≤◌}
use Rattle.aos_frame.specs.Fields.{FitsLink}
use Rattle.cfdp_entity.specs.Fields as entity
use Rattle.cfdp_station.specs.declared.config.StationConfig.{StationConfig}
use Rattle.cfdp_station.specs.declared.amiss.StationField.{StationField}
use Rattle.cfdp_station.specs.declared.amiss.StationField.TheVariants as stations

abbrev pub Fits : StationField → StationConfig → Type 0
Fits (stations.Entity field) c = entity.Fits field c.entity
Fits (stations.Sends field) c = FitsLink field c.sends
Fits (stations.Receives field) c = FitsLink field c.receives
Fits stations.Capacity c = (8192 ≤ c.capacity) × (c.capacity ≤ 65536)
