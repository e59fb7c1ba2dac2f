-- What a settled world is, and what ends a settling before.
use Rattle.std.specs.Prelude.{◌≡◌, ◌≢◌, ◌⊎◌, ℕ, ◌-◌, ◌^◌, ◌<◌, List, [], ◌∷◌, length, get_or}
use Rattle.mpdu.specs.Packing.{flush_of}
use Rattle.aos_frame.specs.declared.config.Lane.{Lane}
use Rattle.aos_frame.specs.declared.config.Lane.TheVariants.{Directives, Data}
use Rattle.link_stack.specs.Downward.{lane_down, packing}
use Rattle.link_stack.specs.Upward.{drop_count}
use Rattle.cfdp_entity.specs.Polling.{Rests, turn}
use Rattle.cfdp_entity.specs.Table.{most_records}
use Rattle.cfdp_station.specs.Station.{StationState}
use Rattle.station_pair.specs.declared.side.Side.{Side}
use Rattle.station_pair.specs.declared.side.Side.TheVariants.{One, Two}
use Rattle.link_sim.specs.declared.event.Event.{Event}
use Rattle.link_sim.specs.declared.event.Event.TheVariants as event
use Rattle.link_sim.specs.declared.event.Applied.{Applied}
use Rattle.link_sim.specs.declared.event.Applied.TheVariants as did
use Rattle.link_sim.specs.declared.shortages.Shortages.{Shortages}
use Rattle.station_pair.specs.declared.settle_error.SettleError.{SettleError}
use Rattle.station_pair.specs.declared.settle_error.SettleError.TheVariants.{NoMemory, StoreFailed, TableFull}
use Rattle.link_sim.specs.Clean.{IsClean}
use Rattle.link_sim.specs.Theorem.{WorldSeen, HoldsAt, Follows}
use Rattle.link_sim.specs.World.State.{WorldState, station_at, entity_at}
use Rattle.link_sim.specs.World.Steps.{FindsNoMemory, NoneWaits, NoneWhole, Steps, WantsMemory, side_in}

-- Nothing is due at either station, and in neither lane a whole zone waits there, a flush would
-- make a frame, or a frame waits.
pub record IsSettledAt (s : Side) (w : WorldState) : Type 0 where
  pub rests : turn (entity_at s w) ≡ Rests
  pub none_whole : (l : Lane) → NoneWhole s l w
  pub filled : (l : Lane) → flush_of (packing (lane_down l (station_at s w).down)) ≡ []
  pub none_waits : (l : Lane) → NoneWaits s l w

abbrev pub IsSettled : WorldState → Type 0
IsSettled w = (s : Side) → IsSettledAt s w

-- Nothing is due at this station, and no flush would make a frame there.
abbrev pub HasSent : Side → WorldState → Type 0
HasSent s w = (turn (entity_at s w) ≡ Rests)
    × ((l : Lane) → flush_of (packing (lane_down l (station_at s w).down)) ≡ [])

-- If the promises hold of the old world, more happened up to the new one, and they hold of it.
pub record LeadsTo (old new : WorldSeen) : Type 0 where
  pub follows : ((s : Side) → HoldsAt s old) → Follows old new
  pub holds : ((s : Side) → HoldsAt s old) → (s : Side) → HoldsAt s new

-- ---- what a settling does
-- its events
abbrev pub IsOfSettling : Event → Type 0
IsOfSettling (event.Poll s) = Unit {0}
IsOfSettling (event.Flush s) = Unit {0}
IsOfSettling (event.Deliver s l) = Unit {0}
IsOfSettling _ = ⊥

-- In a round the first station polls and flushes, then the second one, and what waits of the first
-- is delivered, and then of the second: of each the lane of directives first. After that comes the
-- next round.
abbrev pub next_of : Event → Event
next_of (event.Poll s) = event.Flush s
next_of (event.Flush One) = event.Poll Two
next_of (event.Flush Two) = event.Deliver One Directives
next_of (event.Deliver s Directives) = event.Deliver s Data
next_of (event.Deliver One Data) = event.Deliver Two Directives
next_of (event.Deliver Two Data) = event.Poll One
next_of e = e

-- what comes after an event: the same once more if it did something, and otherwise the next one
abbrev pub behind : Event → Applied → Event
behind e did.Nothing = next_of e
behind e _ = e

-- These events come in that order from one on, each with what it did; then `upto` is the next.
abbrev pub AreInOrder : (from upto : Event) → List (Event × Applied) → Type 0
AreInOrder from upto [] = upto ≡ from
AreInOrder from upto (s ∷ steps) = (s.0 ≡ from) × AreInOrder (behind s.0 s.1) upto steps

-- These polls, flushes and deliveries led from the old world to the new one, one after another.
abbrev pub AreOfSettling : List (Event × Applied) → (old new : WorldState) → Type 0
AreOfSettling [] old new = new ≡ old
AreOfSettling (s ∷ steps) old new = (mid : WorldState)
    × IsOfSettling s.0 × Steps s.0 s.1 old mid × AreOfSettling steps mid new

-- Nothing but such events did, in order from one up to another: nothing was put, lost or cancelled,
-- and no time was given.
pub record SettlesFrom (from upto : Event) (old new : WorldState) : Type 0 where
  pub steps : List (Event × Applied)
  pub are : AreOfSettling steps old new
  pub in_order : AreInOrder from upto steps

-- the first event of a round
abbrev pub first_event : Event
first_event = event.Poll One

-- Such events did, in whole rounds.
abbrev pub OnlySettles : (old new : WorldState) → Type 0
OnlySettles old new = SettlesFrom first_event first_event old new

-- ---- what ends a settling before
-- how often a station was short: of memory on its link and at its entity, of its stores, and of
-- room for a transaction or an acknowledgement
abbrev pub shortages : StationState → Shortages
shortages s = record {
  link_memory = drop_count s.up 11;
  memory = get_or s.entity.state.drops 16 0;
  outbox = s.entity.outbox_failures;
  inbox = s.entity.inbox_failures;
  table = get_or s.entity.state.drops 15 0;
}

-- The count differs; or it stands at the greatest value, at which one more wouldn't show, so that
-- is taken for a rise.
abbrev pub HasRisen : (before after : ℕ) → Type 0
HasRisen before after = (after ≢ before) ⊎ (after ≡ 2 ^ 64 - 1)

abbrev pub IsSpared : (before after : ℕ) → Type 0
IsSpared before after = (after ≡ before) × (after < 2 ^ 64 - 1)

-- At a station a count rose that this error reports.
abbrev pub RisesAt : SettleError → (before after : Shortages) → Type 0
RisesAt NoMemory before after =
    HasRisen before.link_memory after.link_memory ⊎ HasRisen before.memory after.memory
RisesAt StoreFailed before after =
    HasRisen before.outbox after.outbox ⊎ HasRisen before.inbox after.inbox
RisesAt TableFull before after = HasRisen before.table after.table

-- None did.
abbrev pub CountsStayAt : SettleError → (before after : Shortages) → Type 0
CountsStayAt NoMemory before after =
    IsSpared before.link_memory after.link_memory × IsSpared before.memory after.memory
CountsStayAt StoreFailed before after =
    IsSpared before.outbox after.outbox × IsSpared before.inbox after.inbox
CountsStayAt TableFull before after = IsSpared before.table after.table

-- the shortages of both stations
abbrev pub all_shortages : WorldState → Shortages × Shortages
all_shortages w = (shortages w.one, shortages w.two)

abbrev pub Rises : SettleError → (before after : Shortages × Shortages) → Type 0
Rises error before after = RisesAt error before.0 after.0 ⊎ RisesAt error before.1 after.1

abbrev pub CountsStay : SettleError → (before after : Shortages × Shortages) → Type 0
CountsStay error before after =
    CountsStayAt error before.0 after.0 × CountsStayAt error before.1 after.1

-- No count that shows a shortage differs at either station; and had one risen, it would show.
pub record KeepsAll (before after : Shortages × Shortages) : Type 0 where
  pub memory : CountsStay NoMemory before after
  pub stores : CountsStay StoreFailed before after
  pub tables : CountsStay TableFull before after

-- A count that this error reports rose, and none of an error with a lower number.
abbrev pub RisesFirst : SettleError → (before after : Shortages × Shortages) → Type 0
RisesFirst NoMemory before after = Rises NoMemory before after
RisesFirst StoreFailed before after =
    Rises StoreFailed before after × CountsStay NoMemory before after
RisesFirst TableFull before after =
    Rises TableFull before after × CountsStay StoreFailed before after
    × CountsStay NoMemory before after

-- ---- a table that is full
-- how often a station found no room for a transaction or an acknowledgement
abbrev pub no_room : Side → WorldState → ℕ
no_room s w = get_or (entity_at s w).drops 15 0

-- If that differs, the table of the station has all the records that it may have: 4,096.
abbrev pub DropsWhereFull : (old new : WorldState) → Type 0
DropsWhereFull old new = (s : Side) → no_room s new ≢ no_room s old
    → length (entity_at s new).table.records ≡ most_records

-- ---- how a settling goes
-- Polls, flushes and deliveries led in order from the old world to the new one, no count of a
-- shortage differs at the end, and a clean world stayed clean.
pub record GoesWellFrom (from upto : Event) (old new : WorldState) : Type 0 where
  pub only : SettlesFrom from upto old new
  pub spared : KeepsAll (all_shortages old) (all_shortages new)
  pub clean : IsClean old → IsClean new

abbrev pub GoesWell : (old new : WorldState) → Type 0
GoesWell old new = GoesWellFrom first_event first_event old new

-- An event of it ended a settling with this error: that happened in it, or it found no memory. If a
-- PDU found no room in it, the table there is full.
abbrev pub Ends : SettleError → Event → (old new : WorldState) → Type 0
Ends error e old new = IsOfSettling e ×
    (((d : Applied) × Steps e d old new × RisesFirst error (all_shortages old) (all_shortages new))
    ⊎ ((error ≡ NoMemory) × WantsMemory e × FindsNoMemory (side_in e) old new))
    × DropsWhereFull old new

-- The event whose turn it was ended it so, and up to then all went well.
pub record HasCauseFrom (from : Event) (error : SettleError) (old new : WorldState) : Type 0 where
  pub last : WorldState
  pub event : Event
  pub well : ((last ≡ old) × (event ≡ from)) ⊎ GoesWellFrom from event old last
  pub ends : Ends error event last new

abbrev pub HasCause : SettleError → (old new : WorldState) → Type 0
HasCause error old new = HasCauseFrom first_event error old new
