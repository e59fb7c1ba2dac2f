-- What a poll of a station does.
use Rattle.std.specs.Prelude.{◌≡◌, ◌<◌, ◌≤◌, ◌+◌, ◌%◌, ℕ, true, false, List, length}
use Rattle.aos_frame.specs.Frame.{other_lane}
use Rattle.cfdp_store.specs.declared.stored.Stored.{Stored}
use Rattle.cfdp_store.specs.declared.stored.Stored.TheVariants.{Done, Refused}
use Rattle.link_stack.specs.Downward.{DownState, SendsPdu, lane_down, room}
use Rattle.cfdp_entity.specs.Entity.{EntityState, Counted}
use Rattle.cfdp_entity.specs.Polling.{turn, Rests, turn_data, turn_octets, turn_len, served, LosesPdu}
use Rattle.cfdp_entity.specs.Table.{ShowsIf}
use Rattle.cfdp_station.specs.declared.polled.Polled.{Polled}
use Rattle.cfdp_station.specs.declared.polled.Polled.TheVariants.{Moved, Nothing, Full, SourceFailed}
use Rattle.cfdp_station.specs.Link.{next_lane}
use Rattle.cfdp_station.specs.Station.{StationState}

-- the octets of the PDU whose turn it is, and how many they are
abbrev pub next_pdu : EntityState → List ℕ
next_pdu e = turn_octets (turn e) e

abbrev pub next_len : EntityState → ℕ
next_len e = turn_len (turn e) e

-- the room for it: its lane's
abbrev pub next_room : EntityState → DownState → ℕ
next_room e down = room (lane_down (next_lane e) down)

-- The PDU whose turn it is was taken from the entity, and went down its lane as one packet, with
-- the running count; the other lane is as it was.
pub record MovesPdu (old new : EntityState) (down down_now : DownState) : Type 0 where
  pub some : 1 ≤ next_len old
  pub fits : next_len old ≤ next_room old down
  pub len : length (next_pdu old) ≡ next_len old
  pub served : new ≡ served Done (turn old) old
  pub sent : SendsPdu (next_pdu old) down.packet_count (lane_down (next_lane old) down)
      (lane_down (next_lane old) down_now)
  pub other : lane_down (other_lane (next_lane old)) down_now
      ≡ lane_down (other_lane (next_lane old)) down
  pub packet_count : down_now.packet_count ≡ (down.packet_count + 1) % 16384

-- A poll answered this: what became of the entity, and of the end of the link that sends.
abbrev pub Moves : Polled → (old new : Counted) → (down down_now : DownState) → Type 0
Moves Moved old new down down_now = MovesPdu old.state new.state down down_now
Moves Nothing old new down down_now =
    (turn old.state ≡ Rests) × (new ≡ old) × (down_now ≡ down)
Moves Full old new down down_now =
    (next_room old.state down < next_len old.state) × (new ≡ old) × (down_now ≡ down)
Moves SourceFailed old new down down_now =
    LosesPdu (next_room old.state down) old.state new.state × (down_now ≡ down)

-- The end that receives is as it was.
abbrev pub Polls : Polled → (old new : StationState) → Type 0
Polls answer old new = Moves answer old.entity new.entity old.down new.down × (new.up ≡ old.up)

-- What a poll that answered this has shown of the outbox's files: something only if it moved
-- file data, or would have moved them.
abbrev pub Shows : Polled → (old new : EntityState) → Type 0
Shows Moved old new = ShowsIf (turn_data (turn old) old) old.table new.table
Shows SourceFailed old new = ShowsIf true old.table new.table
Shows Nothing old new = ShowsIf false old.table new.table
Shows Full old new = ShowsIf false old.table new.table

-- how the outbox answered
abbrev pub stored_by_poll : Polled → Stored
stored_by_poll Moved = Done
stored_by_poll Nothing = Done
stored_by_poll Full = Done
stored_by_poll SourceFailed = Refused
