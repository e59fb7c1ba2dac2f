-- The state of a port, and how long its frames are.
use Rattle.std.specs.Prelude.{◌≡◌, ℕ, ◌+◌, ◌≤◌, Bool, true, false, length}
use Rattle.std.specs.List.{list_all}
use Rattle.cfdp_directives.specs.declared.user.phase.Phase.{Phase}
use Rattle.cfdp_directives.specs.declared.user.phase.Phase.TheVariants.{Closed}
use Rattle.aos_frame.specs.Frame.{frame_len}
use Rattle.link_stack.specs.Downward.{DownState}
use Rattle.cfdp_station.specs.Station.{StationState}
use Rattle.cfdp_entity.specs.Table.{TableState}
use Rattle.cfdp_entity.specs.Walking.{phases_of}

-- a station with its wire
pub record PortState (W : Type 0) : Type 0 where
  pub station : StationState
  pub wire : W

abbrev pub port_state : {W : Type 0} → StationState → W → PortState W
port_state station wire = record { station = station; wire = wire }

-- the table of a station
abbrev pub table_of : StationState → TableState
table_of s = s.entity.state.table

-- This is what happened to the station; nothing was asked of its wire.
pub record AtStation (Happens : (old new : StationState) → Type 0) {W : Type 0}
    (old new : PortState W) : Type 0 where
  pub happens : Happens old.station new.station
  pub wire : new.wire ≡ old.wire

-- The zones of both lanes must have an octet.
abbrev pub HasZones : DownState → Type 0
HasZones d = (1 ≤ d.directives.link.zone) × (1 ≤ d.file_data.link.zone)

-- A buffer of so many octets must be as long as the frames that a station sends.
abbrev pub FitsFrames : ℕ → StationState → Type 0
FitsFrames len s = HasZones s.down × (len ≡ frame_len s.down.directives.link)

-- how many octets wait, in both lanes
abbrev pub all_waiting : DownState → ℕ
all_waiting d = length d.directives.waiting + length d.file_data.waiting

-- Each lane has the link that it had.
abbrev pub KeepsLinks : (old new : DownState) → Type 0
KeepsLinks old new = (new.directives.link ≡ old.directives.link)
    × (new.file_data.link ≡ old.file_data.link)

-- ---- transactions that are over
abbrev pub is_closed : Phase → Bool
is_closed Closed = true
is_closed _ = false

-- `true` if all transactions of a station are closed: those that it sends, and those that it
-- receives
abbrev pub all_closed : StationState → Bool
all_closed s = list_all (λ known. is_closed known.1) (phases_of s.entity.state.table)
