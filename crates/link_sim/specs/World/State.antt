-- Two stations and the frames between them: what is seen of them.
use Rattle.std.specs.Prelude.{◌≡◌, ℕ, Bool, true, List, [], ◌++◌}
use Rattle.aos_frame.specs.declared.config.Lane.{Lane}
use Rattle.aos_frame.specs.declared.config.Lane.TheVariants.{Directives, Data}
use Rattle.cfdp_header.specs.Files.{FileMap}
use Rattle.link_stack.specs.Downward.{LinkSenderState, lane_down}
use Rattle.link_stack.specs.Upward.{LinkReceiverState, lane_up}
use Rattle.cfdp_entity.specs.Entity.{EntityState}
use Rattle.cfdp_station.specs.New.{IsFirstAt}
use Rattle.cfdp_station.specs.Station.{StationState}
use Rattle.station_pair.specs.declared.side.Side.{Side}
use Rattle.station_pair.specs.declared.side.Side.TheVariants.{One, Two}
use Rattle.link_sim.specs.declared.event.AcceptedPut.{AcceptedPut}
use Rattle.station_pair.specs.declared.world_config.WorldConfig.{WorldConfig}
use Rattle.link_sim.specs.FrameLink.{FrameLinkState, FrameLinksState}
use Rattle.link_sim.specs.OneWay.{OneWayState, IsOneWay, IsRested, arriving, on_way, pdus_delivered, pdus_sent}
use Rattle.station_pair.specs.Stations.{other}

-- All frames that a station sent in a lane, in order; the marks of those that no longer wait, in
-- the same order: `true` if delivered; and how many of the last of these were struck in a row.
pub record LinkState : Type 0 where
  pub frames : List (List ℕ)
  pub marks : List Bool
  pub run : ℕ

-- what is seen of it: not how many buffers are kept
abbrev pub seen_link : FrameLinkState → LinkState
seen_link k = record { frames = k.frames; marks = k.marks; run = k.run }

-- both lanes of what a station sent
pub record LanesState : Type 0 where
  pub directives : LinkState
  pub file_data : LinkState

abbrev pub on_lane : Lane → LanesState → LinkState
on_lane Directives k = k.directives
on_lane Data k = k.file_data

abbrev pub seen_links : FrameLinksState → LanesState
seen_links k = record {
  directives = seen_link k.directives;
  file_data = seen_link k.file_data;
}

-- Both stations, what each of them sent, the accepted puts in order, and how often the time was
-- given.
pub record WorldState : Type 0 where
  pub one : StationState
  pub two : StationState
  pub from_one : LanesState
  pub from_two : LanesState
  pub puts : List AcceptedPut
  pub ticks : ℕ

abbrev pub station_at : Side → WorldState → StationState
station_at One w = w.one
station_at Two w = w.two

-- what a station sent, and of that what it sent in a lane
abbrev pub link_from : Side → WorldState → LanesState
link_from One w = w.from_one
link_from Two w = w.from_two

abbrev pub lane_from : Side → Lane → WorldState → LinkState
lane_from s l w = on_lane l (link_from s w)

abbrev pub entity_at : Side → WorldState → EntityState
entity_at s w = (station_at s w).entity.state

-- a lane of a direction, between the end that sends at one station and the end that receives at the
-- other
abbrev pub way : LinkSenderState → LinkState → LinkReceiverState → OneWayState
way down link up =
    record { down = down; up = up; frames = link.frames; marks = link.marks; run = link.run }

abbrev pub way_from : Side → Lane → WorldState → OneWayState
way_from s l w = way (lane_down l (station_at s w).down) (lane_from s l w)
    (lane_up l (station_at (other s) w).up)

-- ---- both lanes of a direction
-- The PDUs that a station put on the link, delivered or not; those that were delivered to the other
-- one; those on their way there, and of these those that will arrive if no more is lost. Each
-- lane's are in order; the lane of directives stands first.
abbrev pub sent_from : Side → WorldState → List (List ℕ)
sent_from s w = pdus_sent (way_from s Directives w) ++ pdus_sent (way_from s Data w)

abbrev pub delivered_from : Side → WorldState → List (List ℕ)
delivered_from s w = pdus_delivered (way_from s Directives w) ++ pdus_delivered (way_from s Data w)

abbrev pub on_way_from : Side → WorldState → List (List ℕ)
on_way_from s w = on_way (way_from s Directives w) ++ on_way (way_from s Data w)

abbrev pub arriving_from : Side → WorldState → List (List ℕ)
arriving_from s w = arriving (way_from s Directives w) ++ arriving (way_from s Data w)

-- each lane is a direction of its own
abbrev pub AreWays : Side → WorldState → Type 0
AreWays s w = (l : Lane) → IsOneWay (way_from s l w)

abbrev pub AreRested : Side → WorldState → Type 0
AreRested s w = (l : Lane) → IsRested (way_from s l w)

-- ---- at first
abbrev pub no_frames : LinkState
no_frames = record { frames = []; marks = []; run = 0 }

abbrev pub no_lanes : LanesState
no_lanes = record { directives = no_frames; file_data = no_frames }

-- Nothing happened yet.
pub record IsFirst (c : WorldConfig) (outboxes inboxes : FileMap × FileMap) (w : WorldState)
    : Type 0 where
  pub one : IsFirstAt c.one outboxes.0 inboxes.0 w.one
  pub two : IsFirstAt c.two outboxes.1 inboxes.1 w.two
  pub from_one : w.from_one ≡ no_lanes
  pub from_two : w.from_two ≡ no_lanes
  pub puts : w.puts ≡ []
  pub ticks : w.ticks ≡ 0

-- the files of one station
abbrev pub files_at : Side → FileMap × FileMap → FileMap
files_at One files = files.0
files_at Two files = files.1

-- ---- what is published
-- the files that a station received and published
abbrev pub published_at : Side → WorldState → FileMap
published_at s w = (entity_at s w).table.files
