-- A station at its start.
use Rattle.std.specs.Prelude.{◌≡◌, Bool, true}
use Rattle.cfdp_header.specs.Files.{FileMap}
use Rattle.link_stack.specs.Downward.{first_down}
use Rattle.link_stack.specs.Upward.{first_up}
use Rattle.cfdp_entity.specs.Entity.{entity_standing, first_entity}
use Rattle.cfdp_station.specs.Station.{StationState}
use Rattle.cfdp_station.specs.declared.config.StationConfig.{StationConfig}

-- A station that did nothing yet, with these files to send, which stand or don't, and these that
-- were published before.
pub record IsNewAt (c : StationConfig) (stands : Bool) (sources files : FileMap) (s : StationState)
    : Type 0 where
  pub entity : s.entity.state ≡ entity_standing stands (first_entity sources files c.entity)
  pub down : s.down ≡ first_down c.sends c.capacity
  pub up : s.up ≡ first_up c.receives

-- A new station, if its files stand.
abbrev pub IsFirstAt : StationConfig → (sources files : FileMap) → StationState → Type 0
IsFirstAt c sources files s = IsNewAt c true sources files s
