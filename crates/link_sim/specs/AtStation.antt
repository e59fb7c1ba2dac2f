-- What an event does to one station and to the frames that it sent, whatever the end is that
-- receives them: it belongs to the other station.
use Rattle.std.specs.Prelude.{◌≡◌, ◌≢◌, ◌⊎◌, ℕ, ◌+◌, ◌%◌, ◌<◌, ◌≤◌, ◌++◌, false, true, List, [], ◌∷◌, length, drop, Some, Result, Ok, Err, IfOk, OnErr, alloc_error}
use Rattle.std.specs.declared.alloc.AllocError.{AllocError}
use Rattle.cfd_bits.specs.Counting.{raised}
use Rattle.cfdp_header.specs.declared.value.TransactionId.{TransactionId}
use Rattle.aos_frame.specs.Frame.{frame_fault, frame_len, lane_channel, other_lane}
use Rattle.aos_frame.specs.declared.config.ChannelConfig.{ChannelConfig}
use Rattle.aos_frame.specs.declared.config.LinkConfig.{LinkConfig}
use Rattle.aos_frame.specs.declared.config.Lane.{Lane}
use Rattle.aos_frame.specs.declared.error.FrameError.TheVariants.{Damaged}
use Rattle.mpdu.specs.Packing.{flush_of}
use Rattle.link_stack.specs.Frames.{packet_of}
use Rattle.link_stack.specs.Downward.{DownState, LinkSenderState, frame_lane, lane_down, packing}
use Rattle.link_stack.specs.Upward.{LinkReceiverState, UpState, lane_up}
use Rattle.cfdp_store.specs.declared.stored.Stored.TheVariants as storeds
use Rattle.cfdp_store.specs.Stores.{Counts}
use Rattle.cfdp_store.specs.Chains.{Raises}
use Rattle.cfdp_entity.specs.declared.request.Request.{Request}
use Rattle.cfdp_entity.specs.declared.request.Request.TheVariants as requests
use Rattle.cfdp_entity.specs.declared.error.PutError.{PutError}
use Rattle.cfdp_entity.specs.declared.error.PutError.TheVariants as put_errors
use Rattle.cfdp_entity.specs.declared.error.RequestError.{RequestError}
use Rattle.cfdp_entity.specs.declared.error.RequestError.TheVariants as call_errors
use Rattle.cfdp_entity.specs.Entity.{Counted, with_table}
use Rattle.cfdp_entity.specs.Polling.{Place, Rests, turn, served}
use Rattle.cfdp_entity.specs.Putting.{Accepts, IsPutRefusal, put_refusal, stored_by_error}
use Rattle.cfdp_entity.specs.Sound.{SpellsTurn}
use Rattle.cfdp_entity.specs.Storing.{AsksByRequest, AsksToTick}
use Rattle.cfdp_entity.specs.Table.{Ticks, data_at}
use Rattle.cfdp_station.specs.Failures.{CountsPut, KeepsFailures, KeepsOutbox}
use Rattle.cfdp_station.specs.Link.{IsNotWhole, WaitAtMost, next_lane}
use Rattle.cfdp_station.specs.Polling.{next_pdu}
use Rattle.cfdp_station.specs.Station.{KeepsRest, StationState}
use Rattle.cfdp_station.specs.Taking.{GivesPdus, HearsAll, TakesFrame}
use Rattle.link_sim.specs.declared.event.Applied.{Applied}
use Rattle.link_sim.specs.declared.event.Applied.TheVariants as did
use Rattle.station_pair.specs.declared.refusal.Refusal.TheVariants as refusal
use Rattle.link_sim.specs.declared.event.AcceptedPut.{AcceptedPut}
use Rattle.link_sim.specs.FrameLink.{FrameLinkState, FrameLinksState, frames_sent, lane_of_links, oldest, most_struck}
use Rattle.link_sim.specs.OneWay.{IsOneWay, IsCarried, SendsNone, SendsMore, HearsMore, one_way}

-- The frames, their marks and the octets of each are as they were: only buffers may have been made.
abbrev pub IsSameLink : (old new : FrameLinkState) → Type 0
IsSameLink old new = (new.frames ≡ old.frames) × (new.marks ≡ old.marks) × (new.run ≡ old.run)
    × (new.len ≡ old.len)

-- What became of the frames, and the octets of each, are as they were.
abbrev pub IsSameMarks : (old new : FrameLinkState) → Type 0
IsSameMarks old new = (new.marks ≡ old.marks) × (new.run ≡ old.run) × (new.len ≡ old.len)

-- So it is of both lanes.
abbrev pub AreSameLinks : (old new : FrameLinksState) → Type 0
AreSameLinks old new = (l : Lane) → IsSameLink (lane_of_links l old) (lane_of_links l new)

abbrev pub AreSameMarks : (old new : FrameLinksState) → Type 0
AreSameMarks old new = (l : Lane) → IsSameMarks (lane_of_links l old) (lane_of_links l new)

-- Of a lane the link, the capacity, whether a flush came last, and the control field are as they
-- were.
abbrev pub IsSameEnd : (old new : LinkSenderState) → Type 0
IsSameEnd old new = (new.link ≡ old.link) × (new.capacity ≡ old.capacity)
    × (new.flushed ≡ old.flushed) × (new.control ≡ old.control)

-- So it is of both lanes; and the count of packets is as it was.
pub record AreSameEnds (old new : DownState) : Type 0 where
  pub lanes : (l : Lane) → IsSameEnd (lane_down l old) (lane_down l new)
  pub packet_count : new.packet_count ≡ old.packet_count

-- Nothing of the lane is added to what was sent or delivered.
abbrev pub AddsNone : (old new : LinkSenderState) → (link link_now : FrameLinkState) → Type 0
AddsNone old new link link_now = (up : LinkReceiverState) → IsOneWay (one_way old link up)
    → SendsNone (one_way old link up) (one_way new link_now up)

-- Between events, a lane of an end that sends and its link: no whole zone waits, the buffers fit
-- the link's frames, and a PDU of any kind has room.
pub record IsReady (down : LinkSenderState) (link : FrameLinkState) : Type 0 where
  pub most_zone : down.link.zone ≤ 2040
  pub none_waits : IsNotWhole down
  pub fits : link.len ≡ frame_len down.link
  pub capacity : 8192 ≤ down.capacity

-- Both lanes are ready.
abbrev pub AreReady : DownState → FrameLinksState → Type 0
AreReady down links = (l : Lane) → IsReady (lane_down l down) (lane_of_links l links)

-- A lane that was carried is carried still.
abbrev pub CarriesOn : (old new : LinkSenderState) → (link link_now : FrameLinkState) → Type 0
CarriesOn old new link link_now =
    (up : LinkReceiverState) → IsCarried old link up → IsCarried new link_now up

-- Each lane is carried, between the end that sends and the end that receives.
abbrev pub AreCarried : DownState → FrameLinksState → UpState → Type 0
AreCarried down links up =
    (l : Lane) → IsCarried (lane_down l down) (lane_of_links l links) (lane_up l up)

-- On one lane this was done, and the other is as it was.
pub record OnLane (l : Lane) (Does : (link link_now : FrameLinkState) → Type 0)
    (links links_now : FrameLinksState) : Type 0 where
  pub does : Does (lane_of_links l links) (lane_of_links l links_now)
  pub other : lane_of_links (other_lane l) links_now ≡ lane_of_links (other_lane l) links

-- ---- frames leave
-- The buffers of each lane fit its frames, and are as many as frames wait to leave.
pub record HasBuffers (down : DownState) (links : FrameLinksState) : Type 0 where
  pub lens : (l : Lane) → (lane_of_links l links).len ≡ frame_len (lane_down l down).link
  pub enough : (l : Lane) → WaitAtMost (lane_of_links l links).blanks (lane_down l down)

-- Of a station nothing changed but the end that sends in one lane.
pub record OnlyLane (l : Lane) (old new : StationState) : Type 0 where
  pub other : lane_down (other_lane l) new.down ≡ lane_down (other_lane l) old.down
  pub packet_count : new.down.packet_count ≡ old.down.packet_count
  pub rest : KeepsRest old new

-- The oldest whole zone of a lane became a frame, the last that was sent: it is placed after all
-- frames of both lanes. The other lane is as it was.
pub record PullsOne (old new : DownState) (links links_now : FrameLinksState) : Type 0 where
  pub lane : Lane
  pub is_next : frame_lane old ≡ Some lane
  pub way : AddsNone (lane_down lane old) (lane_down lane new) (lane_of_links lane links)
      (lane_of_links lane links_now)
  pub waiting : (lane_down lane new).waiting
      ≡ drop (lane_down lane old).link.zone (lane_down lane old).waiting
  pub used : (lane_of_links lane links_now).blanks + 1 ≡ (lane_of_links lane links).blanks
  pub grown : length (lane_of_links lane links_now).frames
      ≡ length (lane_of_links lane links).frames + 1
  pub placed : (lane_of_links lane links_now).places
      ≡ (lane_of_links lane links).places ++ frames_sent links ∷ []
  pub other : lane_down (other_lane lane) new ≡ lane_down (other_lane lane) old
  pub other_link : lane_of_links (other_lane lane) links_now ≡ lane_of_links (other_lane lane) links
  pub ends : AreSameEnds old new
  pub marks : AreSameMarks links links_now

-- All whole zones of a lane became frames, or none waited and nothing changed.
pub record PullsAll (old new : LinkSenderState) (link link_now : FrameLinkState) : Type 0 where
  pub way : AddsNone old new link link_now
  pub none_whole : IsNotWhole new
  pub made : ((new ≡ old) × (link_now ≡ link))
      ⊎ ((old.link.zone ≤ length old.waiting) × (length link.frames < length link_now.frames))
  pub fixed : IsSameEnd old new
  pub marks : IsSameMarks link link_now

-- All whole zones that waited at a station became frames, and nothing else changed.
pub record PullsBoth (old new : StationState) (links links_now : FrameLinksState) : Type 0 where
  pub lanes : (l : Lane) → PullsAll (lane_down l old.down) (lane_down l new.down)
      (lane_of_links l links) (lane_of_links l links_now)
  pub packet_count : new.down.packet_count ≡ old.down.packet_count
  pub rest : KeepsRest old new

-- Both lanes of a direction that was carried are carried still.
abbrev pub CarryOn : (old new : DownState) → (links links_now : FrameLinksState) → Type 0
CarryOn old new links links_now = (l : Lane) → CarriesOn (lane_down l old) (lane_down l new)
    (lane_of_links l links) (lane_of_links l links_now)

-- Nothing changed but the entity and what was sent: the lanes that were carried are carried still,
-- and as large, none of their frames was taken, and the end that receives is as it was.
pub record OnlySends (old new : StationState) (links links_now : FrameLinksState) : Type 0 where
  pub carried : CarryOn old.down new.down links links_now
  pub capacity : (l : Lane) → (lane_down l new.down).capacity ≡ (lane_down l old.down).capacity
  pub marks : AreSameMarks links links_now
  pub up : new.up ≡ old.up

-- Nothing changed but, at most, how many buffers there are.
abbrev pub KeepsAt : (old new : StationState) → (links links_now : FrameLinksState) → Type 0
KeepsAt old new links links_now = (new ≡ old) × AreSameLinks links links_now

-- A station sent so, or it found no memory; and it did nothing else.
pub record TriesToSend
    (Does : Applied → (old new : StationState) → (links links_now : FrameLinksState) → Type 0)
    (answer : Result Applied AllocError) (old new : StationState)
    (links links_now : FrameLinksState) : Type 0 where
  pub does : IfOk answer (λ applied. Does applied old new links links_now)
  pub err : OnErr answer (KeepsAt old new links links_now)
  pub only : OnlySends old new links links_now

-- Of a lane nothing changed but, at most, how many buffers there are.
pub record KeepsLaneAt (l : Lane) (old new : DownState) (links links_now : FrameLinksState)
    : Type 0 where
  pub down : lane_down l new ≡ lane_down l old
  pub link : IsSameLink (lane_of_links l links) (lane_of_links l links_now)

-- These packets are after all that were sent, which carry the PDUs with these texts.
abbrev pub SendsAt : (old new : LinkSenderState) → (link link_now : FrameLinkState)
    → (qs texts : List (List ℕ)) → Type 0
SendsAt old new link link_now qs texts = (up : LinkReceiverState) → IsCarried old link up
    → SendsMore (one_way old link up) (one_way new link_now up) qs texts

-- ---- calls of the station's user
-- A put was accepted, and is the last one now.
pub record TakesPutAt (source destination : List ℕ) (old new : Counted)
    (puts puts_now : List AcceptedPut) : Type 0 where
  pub id : TransactionId
  pub accepts : Accepts source destination id old.state new.state
  pub failures : KeepsFailures old new
  pub added : puts_now ≡ puts ++ record { id = id; source = source; destination = destination } ∷ []

-- A put was refused by this cause, and nothing else changed.
pub record RefusesPutAt (source destination : List ℕ) (by : PutError) (old new : Counted)
    (puts puts_now : List AcceptedPut) : Type 0 where
  pub no_memory : by ≢ put_errors.NoMemory
  pub cause : IsPutRefusal (put_refusal (stored_by_error by) source destination old.state) by
  pub same : new.state ≡ old.state
  pub failures : CountsPut by old new
  pub same_puts : puts_now ≡ puts

abbrev pub PutsAt : Applied → (source destination : List ℕ) → (old new : Counted)
    → (puts puts_now : List AcceptedPut) → Type 0
PutsAt did.Applied source destination old new puts puts_now =
    TakesPutAt source destination old new puts puts_now
PutsAt did.Nothing source destination old new puts puts_now = ⊥
PutsAt (did.Refused (refusal.Put by)) source destination old new puts puts_now =
    RefusesPutAt source destination by old new puts puts_now
PutsAt (did.Refused (refusal.Call by)) source destination old new puts puts_now = ⊥
PutsAt (did.Refused refusal.LossRunTooLong) source destination old new puts puts_now = ⊥
PutsAt (did.Refused refusal.NotDamaged) source destination old new puts puts_now = ⊥

-- What a request asked of the inbox was counted if it failed: a cancel that its step's calls did,
-- and no other request asks anything.
abbrev pub RaisesByRequest : Request → TransactionId → (old new : Counted) → Type 0
RaisesByRequest requests.Cancel id old new =
    AsksByRequest Raises requests.Cancel id old.state.table old.inbox_failures new.inbox_failures
RaisesByRequest _ id old new = new.inbox_failures ≡ old.inbox_failures

-- what a world answers to a call on a transaction
abbrev pub answered : Result (Unit {0}) RequestError → Result Applied AllocError
answered (Ok u) = Ok did.Applied
answered (Err call_errors.Unknown) = Ok (did.Refused (refusal.Call call_errors.Unknown))
answered (Err call_errors.WrongSide) = Ok (did.Refused (refusal.Call call_errors.WrongSide))
answered (Err call_errors.AlreadyClosed) = Ok (did.Refused (refusal.Call call_errors.AlreadyClosed))
answered (Err call_errors.AlreadySo) = Ok (did.Refused (refusal.Call call_errors.AlreadySo))
answered (Err call_errors.NoMemory) = Err alloc_error

-- ---- the time
-- A station was given the time, and that was counted.
pub record TellsTimeAt (now : ℕ) (old new : Counted) (ticks ticks_now : ℕ) : Type 0 where
  pub ticked : Ticks now old.state.table new.state.table
  pub table : new.state ≡ with_table old.state new.state.table
  pub failures : KeepsOutbox old new
  pub raises : AsksToTick Raises now old.state.table old.inbox_failures new.inbox_failures
  pub counted : ticks_now ≡ raised ticks

-- ---- a poll
-- The PDU whose turn it is was taken, and its one packet is after all that were sent.
pub record SendsOneAt (old new : StationState) (links links_now : FrameLinksState) : Type 0 where
  pub served : new.entity.state ≡ served storeds.Done (turn old.entity.state) old.entity.state
  pub spells : SpellsTurn (turn old.entity.state) old.entity.state
  pub failures : KeepsFailures old.entity new.entity
  pub sends : let pdu = next_pdu old.entity.state in let l = next_lane old.entity.state in
      SendsAt (lane_down l old.down) (lane_down l new.down) (lane_of_links l links)
      (lane_of_links l links_now)
      (packet_of (lane_down l old.down).link old.down.packet_count pdu ∷ []) (pdu ∷ [])
  pub packet_count : new.down.packet_count ≡ (old.down.packet_count + 1) % 16384
  pub other : KeepsLaneAt (other_lane (next_lane old.entity.state)) old.down new.down
      links links_now
  pub none_whole : (l : Lane) → IsNotWhole (lane_down l new.down)
  pub unflushed : (lane_down (next_lane old.entity.state) new.down).flushed ≡ false

-- The outbox failed to give the file data that were due, and that was counted: no PDU moved.
pub record FailsAt (old new : StationState) (links links_now : FrameLinksState) : Type 0 where
  pub place : ℕ
  pub is_next : turn old.entity.state ≡ Place place
  pub carries : data_at place old.entity.state.table ≡ true
  pub counts : Counts storeds.Refused old.entity.outbox_failures new.entity.outbox_failures
  pub inbox : new.entity.inbox_failures ≡ old.entity.inbox_failures
  pub served : new.entity.state ≡ served storeds.Refused (turn old.entity.state) old.entity.state
  pub down : new.down ≡ old.down
  pub same_links : AreSameLinks links links_now

abbrev pub PollsAt : Applied → (old new : StationState) → (links links_now : FrameLinksState)
    → Type 0
PollsAt did.Applied old new links links_now =
    SendsOneAt old new links links_now ⊎ FailsAt old new links links_now
PollsAt did.Nothing old new links links_now =
    (turn old.entity.state ≡ Rests) × KeepsAt old new links links_now
PollsAt (did.Refused by) old new links links_now = ⊥

-- ---- a flush
-- The begun frame of a lane was filled by at most one idle packet, and left. If none was begun the
-- lane is as it was.
pub record FillsLaneAt (l : Lane) (old new : DownState) (links links_now : FrameLinksState)
    : Type 0 where
  pub sends : SendsAt (lane_down l old) (lane_down l new) (lane_of_links l links)
      (lane_of_links l links_now) (flush_of (packing (lane_down l old))) []
  pub most : length (flush_of (packing (lane_down l old))) ≤ 1
  pub same : flush_of (packing (lane_down l old)) ≡ [] → KeepsLaneAt l old new links links_now
  pub none_whole : IsNotWhole (lane_down l new)

pub record FillsAt (old new : StationState) (links links_now : FrameLinksState) : Type 0 where
  pub entity : new.entity ≡ old.entity
  pub lanes : (l : Lane) → FillsLaneAt l old.down new.down links links_now
  pub packet_count : new.down.packet_count ≡ old.down.packet_count
  pub more : (l : Lane)
      × (length (lane_of_links l links).frames < length (lane_of_links l links_now).frames)

abbrev pub FlushesAt : Applied → (old new : StationState) → (links links_now : FrameLinksState)
    → Type 0
FlushesAt did.Applied old new links links_now = FillsAt old new links links_now
FlushesAt did.Nothing old new links links_now =
    ((l : Lane) → flush_of (packing (lane_down l old.down)) ≡ []) × KeepsAt old new links links_now
FlushesAt (did.Refused by) old new links links_now = ⊥

-- ---- a frame arrives
-- The oldest waiting frame of a lane reached this station, whose entity heard, in order, the PDUs
-- that came up. The other lane's end is as it was.
pub record HearsAt (l : Lane) (down : LinkSenderState) (link link_now : FrameLinkState)
    (old new : StationState) : Type 0 where
  pub carried : IsCarried down link_now (lane_up l new.up)
  pub given : List (List ℕ)
  pub gives : GivesPdus (oldest link) (lane_up l old.up) (lane_up l new.up) given
  pub hears : HearsMore (one_way down link (lane_up l old.up))
      (one_way down link_now (lane_up l new.up)) given
  pub heard : HearsAll given old.entity new.entity
  pub other_up : lane_up (other_lane l) new.up ≡ lane_up (other_lane l) old.up

-- It arrives, or none waited and nothing changed.
pub record FrameComes (l : Lane) (link link_now : FrameLinkState) (old new : StationState)
    : Type 0 where
  pub waits : length link.marks < length link.frames
  pub marked : link_now ≡ record link { marks = link.marks ++ true ∷ []; run = 0 }
  pub hears : (down : LinkSenderState) → IsCarried down link (lane_up l old.up) →
      HearsAt l down link link_now old new
  pub down : new.down ≡ old.down

abbrev pub FrameArrivesAt : Applied → Lane → (link link_now : FrameLinkState)
    → (old new : StationState) → Type 0
FrameArrivesAt did.Applied l link link_now old new = FrameComes l link link_now old new
FrameArrivesAt did.Nothing l link link_now old new =
    (length link.frames ≤ length link.marks) × (link_now ≡ link) × (new ≡ old)
FrameArrivesAt (did.Refused by) l link link_now old new = ⊥

-- ---- a frame is lost
-- The oldest waiting frame of a lane was lost.
pub record StrikesFrameAt (link link_now : FrameLinkState) : Type 0 where
  pub waits : length link.marks < length link.frames
  pub few : link.run < most_struck
  pub marked : link_now ≡ record link { marks = link.marks ++ false ∷ []; run = link.run + 1 }

-- One more loss in a row would be taken for none.
pub record IsTooLongAt (link link_now : FrameLinkState) : Type 0 where
  pub waits : length link.marks < length link.frames
  pub run : link.run ≡ most_struck
  pub same : link_now ≡ link

abbrev pub StrikesAt : Applied → (link link_now : FrameLinkState) → Type 0
StrikesAt did.Applied link link_now = StrikesFrameAt link link_now
StrikesAt did.Nothing link link_now =
    (length link.frames ≤ length link.marks) × (link_now ≡ link)
StrikesAt (did.Refused (refusal.Put by)) link link_now = ⊥
StrikesAt (did.Refused (refusal.Call by)) link link_now = ⊥
StrikesAt (did.Refused refusal.LossRunTooLong) link link_now = IsTooLongAt link link_now
StrikesAt (did.Refused refusal.NotDamaged) link link_now = ⊥

-- ---- a frame comes damaged
-- Each lane of the end that receives has the channel that this link gives it.
abbrev pub AreSetUp : LinkConfig → UpState → Type 0
AreSetUp link up = (l : Lane) → (lane_up l up).link ≡ lane_channel l link

-- These octets came in the place of the oldest waiting frame of a lane, which is lost by that, and
-- this station took them.
pub record DamagesFrameAt (channel : ChannelConfig) (octets : List ℕ)
    (link link_now : FrameLinkState) (old new : StationState) : Type 0 where
  pub damaged : frame_fault octets channel ≡ Some Damaged
  pub strikes : StrikesFrameAt link link_now
  pub takes : TakesFrame octets old new

-- They are no damaged frame of the channel.
pub record IsNotDamagedAt (channel : ChannelConfig) (octets : List ℕ)
    (link link_now : FrameLinkState) (old new : StationState) : Type 0 where
  pub waits : length link.marks < length link.frames
  pub differs : frame_fault octets channel ≢ Some Damaged
  pub same_link : link_now ≡ link
  pub same : new ≡ old

abbrev pub DamagesAt : Applied → ChannelConfig → (octets : List ℕ)
    → (link link_now : FrameLinkState) → (old new : StationState) → Type 0
DamagesAt did.Applied channel octets link link_now old new =
    DamagesFrameAt channel octets link link_now old new
DamagesAt did.Nothing channel octets link link_now old new =
    (length link.frames ≤ length link.marks) × (link_now ≡ link) × (new ≡ old)
DamagesAt (did.Refused (refusal.Put by)) channel octets link link_now old new = ⊥
DamagesAt (did.Refused (refusal.Call by)) channel octets link link_now old new = ⊥
DamagesAt (did.Refused refusal.LossRunTooLong) channel octets link link_now old new =
    IsTooLongAt link link_now × (new ≡ old)
DamagesAt (did.Refused refusal.NotDamaged) channel octets link link_now old new =
    IsNotDamagedAt channel octets link link_now old new
