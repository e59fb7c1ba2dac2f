-- A frame that a station takes.
use Rattle.std.proofs.Common.{◌≡◌, ◌≤◌, ℕ, List, [], length, refl, subst}
use Rattle.cfd_bits.specs.Field.{field}
use Rattle.aos_frame.specs.Frame.{other_lane}
use Rattle.aos_frame.specs.declared.config.Lane.{Lane}
use Rattle.link_stack.specs.Downward.{DownState}
use Rattle.link_stack.specs.Upward.{LaneTakes, UpState, lane_of, lane_up}
use Rattle.cfdp_entity.specs.Entity.{Counted}
use Rattle.cfdp_station.specs.Station.{StationState}
use Rattle.cfdp_station.specs.Taking.{HearsAll, TakesFrame}

-- what came up was appended to nothing
pub takes_frame : (frame : List ℕ) (entity entity_now : Counted) (down : DownState) (up up_now : UpState) (none pdus : List (List ℕ)) → none ≡ [] →
    LaneTakes frame (lane_up (lane_of up frame) up) (lane_up (lane_of up frame) up_now) none pdus →
    lane_up (other_lane (lane_of up frame)) up_now ≡ lane_up (other_lane (lane_of up frame)) up →
    ((l : Lane) → 2 ≤ length frame → field frame 10 6 ≡ (lane_up l up).link.virtual_channel → lane_of up frame ≡ l) →
    HearsAll pdus entity entity_now → (old : StationState) → record { entity = entity; down = down; up = up } ≡ old →
    TakesFrame frame old (record { entity = entity_now; down = down; up = up_now })
takes_frame frame entity entity_now down up up_now none pdus is_none takes other lane heard old is =
    subst (λ (s : StationState). TakesFrame frame s (record { entity = entity_now; down = down; up = up_now })) is
    (record {
      pdus = pdus;
      given = subst (λ (l : List (List ℕ)). LaneTakes frame (lane_up (lane_of up frame) up) (lane_up (lane_of up frame) up_now) l pdus) is_none takes;
      heard = heard;
      down = refl;
      other = other;
      lane = lane;
    })
