-- What each event does to two stations and the frames between them.
use Rattle.std.specs.Prelude.{◌≡◌, ◌≢◌, ◌⊎◌, ◌<◌, ◌≤◌, ℕ, ◌+◌, ◌%◌, Bool, true, false, List, [], ◌∷◌, ◌++◌, length, slice_index_or, Some}
use Rattle.cfd_bits.specs.Counting.{raised}
use Rattle.cfdp_header.specs.declared.value.TransactionId.{TransactionId}
use Rattle.aos_frame.specs.Frame.{frame_fault, other_lane}
use Rattle.aos_frame.specs.declared.config.ChannelConfig.{ChannelConfig}
use Rattle.aos_frame.specs.declared.config.Lane.{Lane}
use Rattle.aos_frame.specs.declared.error.FrameError.TheVariants.{Damaged}
use Rattle.mpdu.specs.Packing.{flush_of}
use Rattle.link_stack.specs.Frames.{packet_of}
use Rattle.link_stack.specs.Downward.{lane_down, packing}
use Rattle.link_stack.specs.Drops.{counted}
use Rattle.link_stack.specs.Upward.{LinkReceiverState, lane_of, lane_up}
use Rattle.link_stack.specs.declared.drops.LinkDrop.TheVariants.{Frame}
use Rattle.cfdp_store.specs.declared.stored.Stored.TheVariants as storeds
use Rattle.cfdp_store.specs.Chains.{Raises}
use Rattle.cfdp_store.specs.Stores.{Counts}
use Rattle.cfdp_entity.specs.declared.request.Request.{Request}
use Rattle.cfdp_entity.specs.declared.request.Request.TheVariants as calls
use Rattle.cfdp_entity.specs.declared.error.PutError.{PutError}
use Rattle.cfdp_entity.specs.declared.error.PutError.TheVariants as put_errors
use Rattle.cfdp_entity.specs.declared.error.RequestError.{RequestError}
use Rattle.cfdp_entity.specs.declared.error.RequestError.TheVariants as call_errors
use Rattle.cfdp_entity.specs.Requests.{IsCalled, asks_inbox, request_refusal}
use Rattle.cfdp_entity.specs.Entity.{with_table}
use Rattle.cfdp_entity.specs.Polling.{Place, Rests, turn, served}
use Rattle.cfdp_entity.specs.Putting.{Accepts, IsPutRefusal, put_refusal, stored_by_error}
use Rattle.cfdp_entity.specs.Sound.{SpellsTurn}
use Rattle.cfdp_entity.specs.Storing.{AsksToTick}
use Rattle.cfdp_entity.specs.Table.{Ticks, data_at}
use Rattle.cfdp_station.specs.Link.{next_lane}
use Rattle.cfdp_station.specs.Polling.{next_pdu}
use Rattle.cfdp_station.specs.Station.{KeepsLink}
use Rattle.cfdp_station.specs.Taking.{GivesPdus, HearsAll, TakesFrame}
use Rattle.station_pair.specs.declared.side.Side.{Side}
use Rattle.link_sim.specs.declared.event.Event.{Event}
use Rattle.link_sim.specs.declared.event.Event.TheVariants as event
use Rattle.link_sim.specs.declared.event.Applied.{Applied}
use Rattle.link_sim.specs.declared.event.Applied.TheVariants as did
use Rattle.station_pair.specs.declared.refusal.Refusal.TheVariants as refusal
use Rattle.link_sim.specs.FrameLink.{most_struck}
use Rattle.link_sim.specs.AtStation.{RaisesByRequest}
use Rattle.cfdp_station.specs.Failures.{KeepsFailures, KeepsOutbox, CountsPut}
use Rattle.link_sim.specs.OneWay.{SendsMore, SendsNone, HearsMore}
use Rattle.station_pair.specs.Stations.{other}
use Rattle.link_sim.specs.World.State.{LinkState, WorldState, entity_at, lane_from, link_from, station_at, way_from}

-- ---- what stays
-- The other station, and what it sent, are as they were.
pub record Spares (s : Side) (old new : WorldState) : Type 0 where
  pub station : station_at (other s) new ≡ station_at (other s) old
  pub link : link_from (other s) new ≡ link_from (other s) old

-- No put was accepted, and no time given.
pub record KeepsCounts (old new : WorldState) : Type 0 where
  pub puts : new.puts ≡ old.puts
  pub ticks : new.ticks ≡ old.ticks

-- Of both stations and both links only the entity of one station may have changed.
pub record KeepsLinks (s : Side) (old new : WorldState) : Type 0 where
  pub ends : KeepsLink (station_at s old) (station_at s new)
  pub link : link_from s new ≡ link_from s old
  pub spares : Spares s old new

-- Nothing changed but, at most, how often the stores of one station failed.
pub record Stays (s : Side) (old new : WorldState) : Type 0 where
  pub entity : entity_at s new ≡ entity_at s old
  pub links : KeepsLinks s old new
  pub counts : KeepsCounts old new

-- Less than a zone waits of what a station sent in a lane: every whole one is on the link, as a
-- frame.
abbrev pub NoneWhole : Side → Lane → WorldState → Type 0
NoneWhole s l w = let down = lane_down l (station_at s w).down in
    length down.waiting < down.link.zone

-- The other lane of what a station sent is as it was, from end to end.
abbrev pub KeepsOther : Side → Lane → (old new : WorldState) → Type 0
KeepsOther s l old new = way_from s (other_lane l) new ≡ way_from s (other_lane l) old

-- A call at this station found no memory: nothing changed.
abbrev pub FindsNoMemory : Side → (old new : WorldState) → Type 0
FindsNoMemory s old new = new ≡ old

-- ---- calls of a station's user
-- A put was accepted, and is the last one now.
pub record TakesPut (s : Side) (source destination : List ℕ) (old new : WorldState) : Type 0 where
  pub id : TransactionId
  pub accepts : Accepts source destination id (entity_at s old) (entity_at s new)
  pub failures : KeepsFailures (station_at s old).entity (station_at s new).entity
  pub links : KeepsLinks s old new
  pub puts : new.puts
      ≡ old.puts ++ record { id = id; source = source; destination = destination } ∷ []
  pub ticks : new.ticks ≡ old.ticks

-- A put was refused by this cause.
pub record RefusesPut (s : Side) (source destination : List ℕ) (by : PutError)
    (old new : WorldState) : Type 0 where
  pub no_memory : by ≢ put_errors.NoMemory
  pub cause : IsPutRefusal
      (put_refusal (stored_by_error by) source destination (entity_at s old)) by
  pub stays : Stays s old new
  pub failures : CountsPut by (station_at s old).entity (station_at s new).entity

abbrev pub Puts : Applied → Side → (source destination : List ℕ) → (old new : WorldState) → Type 0
Puts did.Applied s source destination old new = TakesPut s source destination old new
Puts did.Nothing s source destination old new = ⊥
Puts (did.Refused (refusal.Put by)) s source destination old new =
    RefusesPut s source destination by old new
Puts (did.Refused (refusal.Call by)) s source destination old new = ⊥
Puts (did.Refused refusal.LossRunTooLong) s source destination old new = ⊥
Puts (did.Refused refusal.NotDamaged) s source destination old new = ⊥

-- A call on a transaction was one step of its record. Only one that gives up what is received may
-- ask something of the inbox, and so fail there.
pub record StepsAt (s : Side) (c : Request) (id : TransactionId) (old new : WorldState) : Type 0 where
  pub called : IsCalled c id (entity_at s old) (entity_at s new)
  pub failures : KeepsOutbox (station_at s old).entity (station_at s new).entity
  pub inbox : asks_inbox c id (entity_at s old).table ≡ false
      → (station_at s new).entity.inbox_failures ≡ (station_at s old).entity.inbox_failures
  pub raises : RaisesByRequest c id (station_at s old).entity (station_at s new).entity
  pub links : KeepsLinks s old new
  pub counts : KeepsCounts old new

-- It was refused by this cause.
pub record RefusesCall (s : Side) (c : Request) (id : TransactionId) (by : RequestError)
    (old new : WorldState) : Type 0 where
  pub no_memory : by ≢ call_errors.NoMemory
  pub cause : request_refusal c id (entity_at s old).table ≡ Some by
  pub same : new ≡ old

abbrev pub Calls : Applied → Side → Request → TransactionId → (old new : WorldState) → Type 0
Calls did.Applied s c id old new = StepsAt s c id old new
Calls did.Nothing s c id old new = ⊥
Calls (did.Refused (refusal.Put by)) s c id old new = ⊥
Calls (did.Refused (refusal.Call by)) s c id old new = RefusesCall s c id by old new
Calls (did.Refused refusal.LossRunTooLong) s c id old new = ⊥
Calls (did.Refused refusal.NotDamaged) s c id old new = ⊥

-- A station was given the time. What the steps of its timers asked of the inbox was counted if it
-- failed.
pub record TellsTime (s : Side) (now : ℕ) (old new : WorldState) : Type 0 where
  pub ticked : Ticks now (entity_at s old).table (entity_at s new).table
  pub table : entity_at s new ≡ with_table (entity_at s old) (entity_at s new).table
  pub failures : KeepsOutbox (station_at s old).entity (station_at s new).entity
  pub raises : AsksToTick Raises now (entity_at s old).table
      (station_at s old).entity.inbox_failures (station_at s new).entity.inbox_failures
  pub links : KeepsLinks s old new
  pub puts : new.puts ≡ old.puts
  pub ticks : new.ticks ≡ raised old.ticks

-- ---- what a station sends
-- The end that receives, the marks and the runs are as they were: only what a station sent grew.
pub record KeepsMarks (s : Side) (old new : WorldState) : Type 0 where
  pub up : (station_at s new).up ≡ (station_at s old).up
  pub marks : (l : Lane) → (lane_from s l new).marks ≡ (lane_from s l old).marks
  pub run : (l : Lane) → (lane_from s l new).run ≡ (lane_from s l old).run
  pub spares : Spares s old new
  pub counts : KeepsCounts old new

-- The PDU whose turn it was was taken, and its one packet is after all that were sent in its lane.
pub record SendsOne (s : Side) (old new : WorldState) : Type 0 where
  pub served : entity_at s new ≡ served storeds.Done (turn (entity_at s old)) (entity_at s old)
  pub spells : SpellsTurn (turn (entity_at s old)) (entity_at s old)
  pub failures : KeepsFailures (station_at s old).entity (station_at s new).entity
  pub sends : let down = (station_at s old).down in let pdu = next_pdu (entity_at s old) in
      let l = next_lane (entity_at s old) in SendsMore (way_from s l old) (way_from s l new)
      (packet_of (lane_down l down).link down.packet_count pdu ∷ []) (pdu ∷ [])
  pub packet_count : (station_at s new).down.packet_count
      ≡ ((station_at s old).down.packet_count + 1) % 16384
  pub other : KeepsOther s (next_lane (entity_at s old)) old new
  pub none_whole : (l : Lane) → NoneWhole s l new
  pub unflushed : (lane_down (next_lane (entity_at s old)) (station_at s new).down).flushed ≡ false
  pub marks : KeepsMarks s old new

-- The outbox failed to give the file data that were due, and that was counted: no PDU moved.
pub record FailsSource (s : Side) (old new : WorldState) : Type 0 where
  pub place : ℕ
  pub is_next : turn (entity_at s old) ≡ Place place
  pub carries : data_at place (entity_at s old).table ≡ true
  pub failed : Counts storeds.Refused (station_at s old).entity.outbox_failures
      (station_at s new).entity.outbox_failures
  pub inbox : (station_at s new).entity.inbox_failures ≡ (station_at s old).entity.inbox_failures
  pub served : entity_at s new ≡ served storeds.Refused (turn (entity_at s old)) (entity_at s old)
  pub links : KeepsLinks s old new
  pub counts : KeepsCounts old new

abbrev pub Polls : Applied → Side → (old new : WorldState) → Type 0
Polls did.Applied s old new = SendsOne s old new ⊎ FailsSource s old new
Polls did.Nothing s old new = (turn (entity_at s old) ≡ Rests) × (new ≡ old)
Polls (did.Refused by) s old new = ⊥

-- what a flush adds to a lane
abbrev pub filling : Side → Lane → WorldState → List (List ℕ)
filling s l w = flush_of (packing (lane_down l (station_at s w).down))

-- The begun frame of each lane was filled by at most one idle packet, and left. If none was begun
-- the lane is as it was.
pub record Fills (s : Side) (old new : WorldState) : Type 0 where
  pub entity : (station_at s new).entity ≡ (station_at s old).entity
  pub sends : (l : Lane) → SendsMore (way_from s l old) (way_from s l new) (filling s l old) []
  pub most : (l : Lane) → length (filling s l old) ≤ 1
  pub packet_count : (station_at s new).down.packet_count ≡ (station_at s old).down.packet_count
  pub same : (l : Lane) → filling s l old ≡ [] → way_from s l new ≡ way_from s l old
  pub none_whole : (l : Lane) → NoneWhole s l new
  pub marks : KeepsMarks s old new

-- A frame more is on the link, in one lane at least.
abbrev pub HasFrame : Side → (old new : WorldState) → Type 0
HasFrame s old new =
    (l : Lane) × (length (lane_from s l old).frames < length (lane_from s l new).frames)

abbrev pub Flushes : Applied → Side → (old new : WorldState) → Type 0
Flushes did.Applied s old new = Fills s old new × HasFrame s old new
Flushes did.Nothing s old new = ((l : Lane) → filling s l old ≡ []) × (new ≡ old)
Flushes (did.Refused by) s old new = ⊥

-- ---- frames that arrive or are lost
-- No frame waits of what a station sent in a lane.
abbrev pub NoneWaits : Side → Lane → WorldState → Type 0
NoneWaits s l w = length (lane_from s l w).frames ≤ length (lane_from s l w).marks

-- The other lane of what a station sent has the same frames, marks and run.
abbrev pub KeepsOtherLink : Side → Lane → (old new : WorldState) → Type 0
KeepsOtherLink s l old new = lane_from s (other_lane l) new ≡ lane_from s (other_lane l) old

-- a lane once its oldest waiting frame was taken
abbrev pub marked : Bool → ℕ → LinkState → LinkState
marked mark run k = record k { marks = k.marks ++ mark ∷ []; run = run }

-- the oldest frame that waits in a lane
abbrev pub oldest_of : LinkState → List ℕ
oldest_of k = slice_index_or k.frames (length k.marks) []

-- The oldest waiting frame of a lane reached the other station, whose receiving end of that lane
-- took it and gave the PDUs that came up, and whose entity heard these in order.
pub record DeliversFrame (s : Side) (l : Lane) (old new : WorldState) : Type 0 where
  pub waits : length (lane_from s l old).marks < length (lane_from s l old).frames
  pub link : lane_from s l new ≡ marked true 0 (lane_from s l old)
  pub given : List (List ℕ)
  pub gives : GivesPdus (oldest_of (lane_from s l old)) (lane_up l (station_at (other s) old).up)
      (lane_up l (station_at (other s) new).up) given
  pub hears : HearsMore (way_from s l old) (way_from s l new) given
  pub heard : HearsAll given (station_at (other s) old).entity (station_at (other s) new).entity
  pub other_up : lane_up (other_lane l) (station_at (other s) new).up
      ≡ lane_up (other_lane l) (station_at (other s) old).up
  pub other_link : KeepsOtherLink s l old new
  pub down : (station_at (other s) new).down ≡ (station_at (other s) old).down
  pub station : station_at s new ≡ station_at s old
  pub back : link_from (other s) new ≡ link_from (other s) old
  pub counts : KeepsCounts old new

abbrev pub Delivers : Applied → Side → Lane → (old new : WorldState) → Type 0
Delivers did.Applied s l old new = DeliversFrame s l old new
Delivers did.Nothing s l old new = NoneWaits s l old × (new ≡ old)
Delivers (did.Refused by) s l old new = ⊥

-- The oldest waiting frame of a lane was lost.
pub record StrikesFrame (s : Side) (l : Lane) (old new : WorldState) : Type 0 where
  pub waits : length (lane_from s l old).marks < length (lane_from s l old).frames
  pub few : (lane_from s l old).run < most_struck
  pub link : lane_from s l new ≡ marked false ((lane_from s l old).run + 1) (lane_from s l old)
  pub sends : SendsNone (way_from s l old) (way_from s l new)
  pub other_link : KeepsOtherLink s l old new
  pub station : station_at s new ≡ station_at s old
  pub spares : Spares s old new
  pub counts : KeepsCounts old new

-- One more loss in a row of this lane would be taken for none.
pub record IsTooLong (s : Side) (l : Lane) (old new : WorldState) : Type 0 where
  pub waits : length (lane_from s l old).marks < length (lane_from s l old).frames
  pub run : (lane_from s l old).run ≡ most_struck
  pub same : new ≡ old

abbrev pub Strikes : Applied → Side → Lane → (old new : WorldState) → Type 0
Strikes did.Applied s l old new = StrikesFrame s l old new
Strikes did.Nothing s l old new = NoneWaits s l old × (new ≡ old)
Strikes (did.Refused (refusal.Put by)) s l old new = ⊥
Strikes (did.Refused (refusal.Call by)) s l old new = ⊥
Strikes (did.Refused refusal.LossRunTooLong) s l old new = IsTooLong s l old new
Strikes (did.Refused refusal.NotDamaged) s l old new = ⊥

-- ---- frames that come damaged
-- Octets are no frame of a channel since they were damaged: they have the length of its frames, its
-- link has error control, and their check differs (CCSDS 732.0-B-4, 4.1.6). So they aren't the
-- frame that was sent.
abbrev pub ComesDamaged : List ℕ → ChannelConfig → Type 0
ComesDamaged octets channel = frame_fault octets channel ≡ Some Damaged

-- the channel of a lane of what a station sends, as the other one knows it
abbrev pub channel_from : Side → Lane → WorldState → ChannelConfig
channel_from s l w = (lane_up l (station_at (other s) w).up).link

-- a lane that took one damaged frame more: nothing of it changed but the count of these, number 12
abbrev pub counts_damaged : LinkReceiverState → LinkReceiverState
counts_damaged up = record up { drops = counted up.drops (Frame Damaged) }

-- The oldest waiting frame of a lane was lost, as a struck one is, whatever the other station's
-- link counted: nothing was delivered by it, and no entity changed.
pub record LosesFrame (s : Side) (l : Lane) (old new : WorldState) : Type 0 where
  pub waits : length (lane_from s l old).marks < length (lane_from s l old).frames
  pub few : (lane_from s l old).run < most_struck
  pub link : lane_from s l new ≡ marked false ((lane_from s l old).run + 1) (lane_from s l old)
  pub sends : (m : Lane) → SendsNone (way_from s m old) (way_from s m new)
  pub other_link : KeepsOtherLink s l old new
  pub station : station_at s new ≡ station_at s old
  pub entity : (station_at (other s) new).entity ≡ (station_at (other s) old).entity
  pub down : (station_at (other s) new).down ≡ (station_at (other s) old).down
  pub back : link_from (other s) new ≡ link_from (other s) old
  pub counts : KeepsCounts old new

-- In the place of that frame these octets came, damaged. The other station took them: the lane that
-- their header names dropped them and counted that, and nothing else changed there.
pub record DamagesFrame (s : Side) (l : Lane) (octets : List ℕ) (old new : WorldState)
    : Type 0 where
  pub damaged : ComesDamaged octets (channel_from s l old)
  pub loses : LosesFrame s l old new
  pub takes : TakesFrame octets (station_at (other s) old) (station_at (other s) new)
  pub counted : let up = (station_at (other s) old).up in let m = lane_of up octets in
      lane_up m (station_at (other s) new).up ≡ counts_damaged (lane_up m up)
  pub other_up : let up = (station_at (other s) old).up in let m = other_lane (lane_of up octets) in
      lane_up m (station_at (other s) new).up ≡ lane_up m up

-- The octets are no damaged frame of the lane.
pub record IsNotDamaged (s : Side) (l : Lane) (octets : List ℕ) (old new : WorldState)
    : Type 0 where
  pub waits : length (lane_from s l old).marks < length (lane_from s l old).frames
  pub differs : ComesDamaged octets (channel_from s l old) → ⊥
  pub same : new ≡ old

abbrev pub Damages : Applied → Side → Lane → List ℕ → (old new : WorldState) → Type 0
Damages did.Applied s l octets old new = DamagesFrame s l octets old new
Damages did.Nothing s l octets old new = NoneWaits s l old × (new ≡ old)
Damages (did.Refused (refusal.Put by)) s l octets old new = ⊥
Damages (did.Refused (refusal.Call by)) s l octets old new = ⊥
Damages (did.Refused refusal.LossRunTooLong) s l octets old new = IsTooLong s l old new
Damages (did.Refused refusal.NotDamaged) s l octets old new = IsNotDamaged s l octets old new

-- ---- all events
abbrev pub IsApplied : Applied → Type 0 → Type 0
IsApplied did.Applied does = does
IsApplied _ does = ⊥

-- An event did this, and led from the old world to the new one.
abbrev pub Steps : Event → Applied → (old new : WorldState) → Type 0
Steps (event.Put s source destination) did old new = Puts did s source destination old new
Steps (event.Cancel s id) did old new = Calls did s calls.Cancel id old new
Steps (event.Suspend s id) did old new = Calls did s calls.Suspend id old new
Steps (event.Resume s id) did old new = Calls did s calls.Resume id old new
Steps (event.Prompt s id keep_alive) did old new = Calls did s (calls.Prompt keep_alive) id old new
Steps (event.Poll s) did old new = Polls did s old new
Steps (event.Flush s) did old new = Flushes did s old new
Steps (event.Tick s now) did old new = IsApplied did (TellsTime s now old new)
Steps (event.Deliver s l) did old new = Delivers did s l old new
Steps (event.Strike s l) did old new = Strikes did s l old new
Steps (event.Damage s l octets) did old new = Damages did s l octets old new

-- the station that an event is about
abbrev pub side_in : Event → Side
side_in (event.Put s source destination) = s
side_in (event.Cancel s id) = s
side_in (event.Suspend s id) = s
side_in (event.Resume s id) = s
side_in (event.Prompt s id keep_alive) = s
side_in (event.Poll s) = s
side_in (event.Flush s) = s
side_in (event.Tick s now) = s
side_in (event.Deliver s l) = s
side_in (event.Strike s l) = s
side_in (event.Damage s l octets) = s

-- The event needs memory: to take a frame off the link needs none.
abbrev pub WantsMemory : Event → Type 0
WantsMemory (event.Deliver s l) = ⊥
WantsMemory (event.Strike s l) = ⊥
WantsMemory (event.Damage s l octets) = ⊥
WantsMemory _ = Unit {0}

-- The event may publish a file at this station: a frame of the other one reaches it.
abbrev pub PublishesAt : Side → Event → Type 0
PublishesAt s (event.Deliver from l) = s ≡ other from
PublishesAt s _ = ⊥
