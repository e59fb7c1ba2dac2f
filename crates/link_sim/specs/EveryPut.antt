-- Proof-only: what two stations and the frames between them keep of each put, as long as nothing
-- spoils it.
use Rattle.std.specs.Prelude.{◌≡◌, not, Bool, true, false, List, length, Some, Contains}
use Rattle.std.specs.List.{list_any}
use Rattle.cfdp_directives.specs.User.Put.{Put}
use Rattle.aos_frame.specs.declared.config.Lane.{Lane}
use Rattle.link_stack.specs.Upward.{drop_count}
use Rattle.link_sim.specs.Between.{Pdu, StaysOnCourse, AreSpelled}
use Rattle.link_sim.specs.Known.{AreKnown}
use Rattle.link_sim.specs.Observed.{seen}
use Rattle.station_pair.specs.Stations.{other}
use Rattle.link_sim.specs.Theorem.{put_of}
use Rattle.link_sim.specs.World.State.{WorldState, entity_at, lane_from, on_way_from, station_at}
use Rattle.link_sim.specs.declared.event.AcceptedPut.{AcceptedPut}
use Rattle.station_pair.specs.declared.side.Side.{Side}
use Rattle.station_pair.specs.declared.side.Side.TheVariants.{One, Two}

-- No frame of this station was lost, and none was dropped there for lack of memory.
pub record LosesNoneAt (s : Side) (w : WorldState) : Type 0 where
  pub none_lost : (l : Lane) → list_any not (lane_from s l w).marks ≡ false
  pub memory : drop_count (station_at s w).up 11 ≡ 0

abbrev pub LosesNone : WorldState → Type 0
LosesNone w = (s : Side) → LosesNoneAt s w

-- Each put of this station stays on its course: on the course of a link without losses if there
-- were none.
abbrev pub StayOnCourse : Side → WorldState → (forth back : List Pdu) → Type 0
StayOnCourse s w forth back = (put : Put) → put_of (seen w) put.id ≡ Some put
    → put.id.source ≡ (entity_at s w).config.entity
    → (lossless : Bool) → (lossless ≡ true → LosesNone w)
    → StaysOnCourse lossless put (entity_at s w) (entity_at (other s) w) forth back

-- The PDUs on their way, the first station's and the second's, are of accepted puts, each entity
-- counts drops by 18 causes, and each put stays on its course.
pub record KeepCourse (w : WorldState) : Type 0 where
  pub from_one : List Pdu
  pub from_two : List Pdu
  pub spelled_one : AreSpelled (on_way_from One w) from_one
  pub spelled_two : AreSpelled (on_way_from Two w) from_two
  pub known : AreKnown (put_of (seen w)) (entity_at One w) (entity_at Two w) from_one from_two
  pub kinds : (s : Side) → length (entity_at s w).drops ≡ 18
  pub puts_of_one : StayOnCourse One w from_one from_two
  pub puts_of_two : StayOnCourse Two w from_two from_one

-- ---- accepted puts
-- An accepted put is found under its id, and is of one of the stations.
pub record IsFound (w : WorldState) (p : AcceptedPut) : Type 0 where
  pub put : Put
  pub is_put : put_of (seen w) p.id ≡ Some put
  pub side : Side
  pub own : p.id.source ≡ (entity_at side w).config.entity

abbrev pub AreFound : WorldState → Type 0
AreFound w = (p : AcceptedPut) → Contains w.puts p → IsFound w p

-- What every event keeps of all puts.
pub record KeepsPuts (w : WorldState) : Type 0 where
  pub course : KeepCourse w
  pub found : AreFound w
