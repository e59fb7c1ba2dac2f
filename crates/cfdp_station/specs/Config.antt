-- What the configuration of a station must be.
use Rattle.std.specs.Prelude.{◌≤◌}
use Rattle.aos_frame.specs.Frame.{IsLink}
use Rattle.cfdp_entity.specs.Config.{IsConfig}
use Rattle.cfdp_station.specs.declared.config.StationConfig.{StationConfig}

-- A station can be set up so.
pub record IsStationConfig (c : StationConfig) : Type 0 where
  pub entity : IsConfig c.entity
  pub sends : IsLink c.sends
  pub receives : IsLink c.receives
  pub least : 8192 ≤ c.capacity
  pub most : c.capacity ≤ 65536
