-- The lanes of both directions that an event leaves as they were.
use Rattle.std.proofs.Common.{◌≡◌, refl, sym, ap, subst, ◌∙◌}
use Rattle.aos_frame.specs.Frame.{other_lane}
use Rattle.aos_frame.specs.declared.config.Lane.{Lane}
use Rattle.link_stack.specs.Downward.{DownState, LinkSenderState, lane_down}
use Rattle.link_stack.specs.Upward.{LinkReceiverState, UpState, lane_up}
use Rattle.station_pair.specs.declared.side.Side.{Side}
use Rattle.station_pair.specs.declared.side.Side.TheVariants.{One, Two}
use Rattle.station_pair.specs.Stations.{other}
use Rattle.link_sim.specs.OneWay.{OneWayState, IsOneWay, SendsNone, pdus_delivered, pdus_sent}
use Rattle.link_sim.specs.World.State.{WorldState, AreWays, LanesState, LinkState, delivered_from, lane_from, link_from, on_lane, sent_from, station_at, way, way_from}
use Rattle.link_sim.specs.World.Steps.{KeepsLinks, KeepsMarks, KeepsOther, DeliversFrame, LosesFrame, StrikesFrame}
use Rattle.link_sim.proofs.Lanes.Each.{either-lane}
use Rattle.link_sim.proofs.Lanes.Joined.{lanes-same}

-- ---- a lane whose ends and frames stay
way-same : (d e : LinkSenderState) (k m : LinkState) (u v : LinkReceiverState) → e ≡ d → m ≡ k → v ≡ u → way e m v ≡ way d k u
way-same d e k m u v a b c = ap (λ x. way x m v) a ∙ ap (λ x. way d x v) b ∙ ap (λ x. way d k x) c

-- each lane of ends and frames that stay
pub lane-same : (l : Lane) (d e : DownState) (k m : LanesState) (u v : UpState) → e ≡ d → m ≡ k → v ≡ u →
    way (lane_down l e) (on_lane l m) (lane_up l v) ≡ way (lane_down l d) (on_lane l k) (lane_up l u)
lane-same l d e k m u v a b c =
    way-same (lane_down l d) (lane_down l e) (on_lane l k) (on_lane l m) (lane_up l u) (lane_up l v) (ap (lane_down l) a) (ap (on_lane l) b) (ap (lane_up l) c)

-- ---- directions
-- what the station itself sends
front-same : (s : Side) (old new : WorldState) → (station_at s new).down ≡ (station_at s old).down → link_from s new ≡ link_from s old → (station_at (other s) new).up
    ≡ (station_at (other s) old).up →
    (l : Lane) → way_from s l new ≡ way_from s l old
front-same s old new d k u l =
    lane-same l (station_at s old).down (station_at s new).down (link_from s old) (link_from s new) (station_at (other s) old).up (station_at (other s) new).up d k u

-- what the other station sends
pub back-same : (s : Side) (old new : WorldState) → (station_at (other s) new).down ≡ (station_at (other s) old).down → link_from (other s) new ≡ link_from (other s) old → (station_at s new).up
    ≡ (station_at s old).up →
    (l : Lane) → way_from (other s) l new ≡ way_from (other s) l old
back-same One old new d k u l = lane-same l old.two.down new.two.down old.from_two new.from_two old.one.up new.one.up d k u
back-same Two old new d k u l = lane-same l old.one.down new.one.down old.from_one new.from_one old.two.up new.two.up d k u

-- an event that sends and takes nothing keeps both
pub forth-kept : (s : Side) (old new : WorldState) → KeepsLinks s old new → (l : Lane) → way_from s l new ≡ way_from s l old
forth-kept s old new k = front-same s old new k.ends.0 k.link (ap (λ x. x.up) k.spares.station)

pub back-kept : (s : Side) (old new : WorldState) → KeepsLinks s old new → (l : Lane) → way_from (other s) l new ≡ way_from (other s) l old
back-kept s old new k = back-same s old new (ap (λ x. x.down) k.spares.station) k.spares.link k.ends.1

-- one that sends keeps what the other station sends, and so does one that takes a frame
pub back-marks : (s : Side) (old new : WorldState) → KeepsMarks s old new → (l : Lane) → way_from (other s) l new ≡ way_from (other s) l old
back-marks s old new k = back-same s old new (ap (λ x. x.down) k.spares.station) k.spares.link k.up

pub back-delivers : (s : Side) (l : Lane) (old new : WorldState) → DeliversFrame s l old new → (m : Lane) → way_from (other s) m new ≡ way_from (other s) m old
back-delivers s l old new h = back-same s old new h.down h.back (ap (λ x. x.up) h.station)

pub back-loses : (s : Side) (l : Lane) (old new : WorldState) → LosesFrame s l old new → (m : Lane) → way_from (other s) m new ≡ way_from (other s) m old
back-loses s l old new h = back-same s old new h.down h.back (ap (λ x. x.up) h.station)

-- the other lane of a frame that is taken
pub other-delivers : (s : Side) (l : Lane) (old new : WorldState) → DeliversFrame s l old new → KeepsOther s l old new
other-delivers s l old new h =
    let m : Lane = other_lane l in
    way-same (lane_down m (station_at s old).down) (lane_down m (station_at s new).down) (lane_from s m old) (lane_from s m new)
    (lane_up m (station_at (other s) old).up) (lane_up m (station_at (other s) new).up) (ap (λ x. lane_down m x.down) h.station) h.other_link h.other_up

pub other-strikes : (s : Side) (l : Lane) (old new : WorldState) → StrikesFrame s l old new → KeepsOther s l old new
other-strikes s l old new h =
    let m : Lane = other_lane l in
    way-same (lane_down m (station_at s old).down) (lane_down m (station_at s new).down) (lane_from s m old) (lane_from s m new)
    (lane_up m (station_at (other s) old).up) (lane_up m (station_at (other s) new).up) (ap (λ x. lane_down m x.down) h.station) h.other_link
    (ap (λ x. lane_up m x.up) h.spares.station)

-- A frame that is struck is lost, and nothing is counted.
pub strikes-loses : (s : Side) (l : Lane) (old new : WorldState) → AreWays s old → StrikesFrame s l old new → LosesFrame s l old new
strikes-loses s l old new is h = record {
  waits = h.waits;
  few = h.few;
  link = h.link;
  sends = either-lane (λ m. SendsNone (way_from s m old) (way_from s m new)) l h.sends
      (subst (λ (w : OneWayState). SendsNone (way_from s (other_lane l) old) w) (sym (other-strikes s l old new h)) (sends-none (way_from s (other_lane l) old) (is (other_lane l))));
  other_link = h.other_link;
  station = h.station;
  entity = ap (λ x. x.entity) h.spares.station;
  down = ap (λ x. x.down) h.spares.station;
  back = h.spares.link;
  counts = h.counts;
}
  where
    sends-none : (w : OneWayState) → IsOneWay w → SendsNone w w
    sends-none w is = record { way = is; packets = refl; delivered = refl }

-- ---- both lanes of a direction that stays
pub sent-kept : (s : Side) (old new : WorldState) → ((l : Lane) → way_from s l new ≡ way_from s l old) → sent_from s new ≡ sent_from s old
sent-kept s old new same = lanes-same (λ m. pdus_sent (way_from s m old)) (λ m. pdus_sent (way_from s m new)) (λ m. ap pdus_sent (same m))

pub delivered-kept : (s : Side) (old new : WorldState) → ((l : Lane) → way_from s l new ≡ way_from s l old) → delivered_from s new ≡ delivered_from s old
delivered-kept s old new same = lanes-same (λ m. pdus_delivered (way_from s m old)) (λ m. pdus_delivered (way_from s m new)) (λ m. ap pdus_delivered (same m))
