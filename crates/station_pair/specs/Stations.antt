-- The two stations of a world, and what their set-up must be.
use Rattle.std.specs.Prelude.{ℕ, ◌≡◌}
use Rattle.station_pair.specs.declared.side.Side.{Side}
use Rattle.station_pair.specs.declared.side.Side.TheVariants.{One, Two}
use Rattle.cfdp_station.specs.Config.{IsStationConfig}
use Rattle.cfdp_station.specs.declared.config.StationConfig.{StationConfig}
use Rattle.station_pair.specs.declared.world_config.WorldConfig.{WorldConfig}

abbrev pub other : Side → Side
other One = Two
other Two = One

-- the number of a station, which scripts take for its entity id
abbrev pub entity_of : Side → ℕ
entity_of One = 1
entity_of Two = 2

abbrev pub station_of : Side → WorldConfig → StationConfig
station_of One c = c.one
station_of Two c = c.two

-- Each station can be set up so. They must mirror each other: each is the other's peer, and
-- receives the frames that the other sends.
pub record IsWorldConfig (c : WorldConfig) : Type 0 where
  pub one : IsStationConfig c.one
  pub two : IsStationConfig c.two
  pub peer_of_two : c.one.entity.entity ≡ c.two.entity.peer
  pub peer_of_one : c.one.entity.peer ≡ c.two.entity.entity
  pub sends : c.one.sends ≡ c.two.receives
  pub receives : c.one.receives ≡ c.two.sends
