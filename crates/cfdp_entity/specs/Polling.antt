-- What a poll does.
use Rattle.std.specs.Prelude.{◌≡◌, ◌≤◌, ◌<◌, ℕ, ◌+◌, Bool, true, false, List, [], ◌∷◌, Option, Some, None}
use Rattle.cfdp_store.specs.declared.stored.Stored.{Stored}
use Rattle.cfdp_store.specs.declared.stored.Stored.TheVariants.{Done, Refused}
use Rattle.cfdp_entity.specs.declared.polled.EntityPolled.{EntityPolled}
use Rattle.cfdp_entity.specs.declared.polled.EntityPolled.TheVariants.{Moved, Nothing, Full, SourceFailed}
use Rattle.cfdp_entity.specs.declared.polled.Rooms.{Rooms}
use Rattle.cfdp_entity.specs.declared.record.Gave.{Gave}
use Rattle.cfdp_entity.specs.declared.record.Gave.TheVariants.{Failed}
use Rattle.cfdp_entity.specs.Entity.{EntityState, Counted}
use Rattle.cfdp_entity.specs.declared.sent.SentPdu.TheVariants.{OtherDirective}
use Rattle.cfdp_entity.specs.Gives.{Gives, CountsOutbox, Writes, stored_by_gave}
use Rattle.cfdp_entity.specs.Sent.{counted_pdu, sent_at, sent_by}
use Rattle.cfdp_entity.specs.Strays.{StrayAck, stray_octets, stray_len}
use Rattle.cfdp_entity.specs.Table.{next_due, due_at, len_at, data_at, taken_at, ShowsIf}

-- what has the next turn: a stray acknowledgement, with those after it, or the record at an index
pub data Turn : Type 0 where
  Stray : (first : StrayAck) (behind : List StrayAck) → Turn
  Place : (place : ℕ) → Turn
  Rests : Turn

abbrev pub record_turn : Option ℕ → Turn
record_turn (Some place) = Place place
record_turn None = Rests

abbrev pub turn_by : List StrayAck → Option ℕ → Turn
turn_by (s ∷ strays) next = Stray s strays
turn_by [] next = record_turn next

-- strays come first, and then the first record after the one served last that has something due,
-- round robin
abbrev pub turn : EntityState → Turn
turn e = turn_by e.strays (next_due e.cursor e.table.records)

-- the octets of the PDU that is due, and how many they are
abbrev pub turn_octets : Turn → EntityState → List ℕ
turn_octets (Stray s strays) e = stray_octets s
turn_octets (Place place) e = due_at place e.table
turn_octets Rests e = []

abbrev pub turn_len : Turn → EntityState → ℕ
turn_len (Stray s strays) e = stray_len s
turn_len (Place place) e = len_at place e.table
turn_len Rests e = 0

-- `true` if that PDU is file data; all others are directives
abbrev pub turn_data : Turn → EntityState → Bool
turn_data (Stray s strays) e = false
turn_data (Place place) e = data_at place e.table
turn_data Rests e = false

-- the room for a PDU of this type, and for that whose turn it is
abbrev pub room_in : Rooms → (is_data : Bool) → ℕ
room_in rooms true = rooms.file_data
room_in rooms false = rooms.directives

abbrev pub turn_room : Rooms → EntityState → ℕ
turn_room rooms e = room_in rooms (turn_data (turn e) e)

-- the entity once it was served: what was sent is counted, by what was due of that record
abbrev pub served : Stored → Turn → EntityState → EntityState
served stored (Stray s strays) e =
    record e { strays = strays; sent = counted_pdu OtherDirective e.sent }
served stored (Place place) e = record e {
  table = taken_at stored place e.table;
  cursor = place + 1;
  sent = sent_by stored (sent_at place e.table) e.sent;
}
served stored Rests e = e

-- The PDU that is due has so many octets and this type: they must fit, and were written over the
-- first of `out`.
pub record MovesPdu (n room : ℕ) (is_data : Bool) (old new : EntityState)
    (out_before out_now : List ℕ) : Type 0 where
  pub type : is_data ≡ turn_data (turn old) old
  pub some : 1 ≤ n
  pub fits : n ≤ room
  pub len : n ≡ turn_len (turn old) old
  pub writes : Writes (turn_octets (turn old) old) n out_before out_now
  pub served : new ≡ served Done (turn old) old

-- The outbox failed to give the file data of a PDU that fits, a sender's. What `out` then
-- holds is left open.
pub record LosesPdu (room : ℕ) (old new : EntityState) : Type 0 where
  pub place : ℕ
  pub is_next : turn old ≡ Place place
  pub carries : data_at place old.table ≡ true
  pub fits : turn_len (turn old) old ≤ room
  pub served : new ≡ served Refused (turn old) old

-- The record at an index has the turn, and its PDU fits: only then a poll needs memory.
pub record TakesTurn (room : ℕ) (e : EntityState) : Type 0 where
  pub place : ℕ
  pub is_next : turn e ≡ Place place
  pub fits : turn_len (turn e) e ≤ room

-- The record at an index sent what it had due, or the outbox failed, and that was counted.
pub record SendsAt (place : ℕ) (gave : Gave) (old new : Counted) (out_before out_now : List ℕ)
    : Type 0 where
  pub taken : new.state ≡ served (stored_by_gave gave) (Place place) old.state
  pub gives : Gives (due_at place old.state.table) (len_at place old.state.table) gave out_before
      out_now
  pub carries : gave ≡ Failed → data_at place old.state.table ≡ true
  pub counts : CountsOutbox (stored_by_gave gave) old.outbox_failures new.outbox_failures
  pub inbox : new.inbox_failures ≡ old.inbox_failures

-- A poll answered this, if there is so much room for the PDU whose turn it is.
abbrev pub Polls : ℕ → EntityPolled → (old new : Counted) → (out_before out_now : List ℕ) → Type 0
Polls room (Moved n is_data) old new out out' = MovesPdu n room is_data old.state new.state out out'
Polls room Nothing old new out out' = (turn old.state ≡ Rests) × (new ≡ old) × (out' ≡ out)
Polls room Full old new out out' =
    (room < turn_len (turn old.state) old.state) × (new ≡ old) × (out' ≡ out)
Polls room SourceFailed old new out out' = LosesPdu room old.state new.state

-- What a poll that answered this has shown of the outbox's files: something only if it took file
-- data, or would have taken them.
abbrev pub Shows : EntityPolled → (old new : EntityState) → Type 0
Shows (Moved n is_data) old new = ShowsIf is_data old.table new.table
Shows SourceFailed old new = ShowsIf true old.table new.table
Shows Nothing old new = ShowsIf false old.table new.table
Shows Full old new = ShowsIf false old.table new.table

-- how the outbox answered
abbrev pub stored_by_poll : EntityPolled → Stored
stored_by_poll SourceFailed = Refused
stored_by_poll _ = Done
