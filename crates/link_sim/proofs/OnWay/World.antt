-- The PDUs on their way between two stations, and what both directions have left, after each kind of event of a settling.
use Rattle.std.proofs.Common.{◌≡◌, ℕ, ◌+◌, ◌*◌, ◌<◌, ◌≤◌, Bool, true, false, not, List, [], ◌∷◌, ◌++◌, length, ap, ◌∙◌, arith}
use Rattle.std.specs.List.{list_any}
use Rattle.aos_frame.specs.Frame.{other_lane}
use Rattle.aos_frame.specs.declared.config.Lane.{Lane}
use Rattle.aos_frame.specs.declared.config.Lane.TheVariants.{Directives, Data}
use Rattle.mpdu.specs.Parts.{IsPartOf}
use Rattle.mpdu.specs.Packets.{busy}
use Rattle.link_stack.specs.Frames.{packet_of, pdus_in}
use Rattle.link_stack.specs.Downward.{DownState, LinkSenderState, lane_down}
use Rattle.link_stack.specs.Upward.{drop_count, lane_up}
use Rattle.cfdp_station.specs.Link.{next_lane}
use Rattle.cfdp_station.specs.Polling.{next_pdu}
use Rattle.station_pair.specs.declared.side.Side.{Side}
use Rattle.station_pair.specs.Stations.{other}
use Rattle.link_sim.specs.OneWay.{OneWayState, behind, on_way, packets_sent}
use Rattle.link_sim.specs.Runs.{IsSwapped}
use Rattle.link_sim.specs.Settling.{IsSettledAt}
use Rattle.link_sim.specs.World.State.{WorldState, LinkState, AreRested, AreWays, station_at, lane_from, entity_at, on_way_from, way_from}
use Rattle.link_sim.specs.World.Steps.{SendsOne, Fills, HasFrame, DeliversFrame, LosesFrame, filling}
use Rattle.link_sim.specs.Work.{octets_left, octets_left_from}
use Rattle.link_sim.proofs.Lanes.Counts.{sum-none}
use Rattle.link_sim.proofs.Lanes.Joined.{lanes-same, more-in-lane, one-fewer-in-lane, put-in-lane, take-from-lane}
use Rattle.link_sim.proofs.Lanes.Ways.{back-delivers, back-loses, back-marks, other-delivers}
pub use Rattle.link_sim.proofs.Lanes.Ways.{back-kept, forth-kept}
use Rattle.link_sim.proofs.OnWay.Pdus.{pdus_ended, on-way-sends, on-way-flushes, on-way-takes, on-way-hears, on-way-all, on-way-settled}
use Rattle.link_sim.proofs.OnWay.Left.{left-polls, left-fills, left-flushes, left-takes}

-- ---- a poll
-- A PDU is on its way after all that are of its lane.
pub record SendsOnWay (s : Side) (pdu : List ℕ) (old new : WorldState) : Type 0 where
  pub forth : IsSwapped (on_way_from s old ++ pdu ∷ []) (on_way_from s new)
  pub back : (l : Lane) → way_from (other s) l new ≡ way_from (other s) l old
  pub left : AreRested s new → octets_left_from s new ≤ octets_left_from s old + 131084

pub polls-on-way : (s : Side) (old new : WorldState) → AreWays s old → SendsOne s old new → SendsOnWay s (next_pdu (entity_at s old)) old new
polls-on-way s old new is h =
    let l : Lane = next_lane (entity_at s old) in
    let d : DownState = (station_at s old).down in
    let pdu : List ℕ = next_pdu (entity_at s old) in
    let q : List ℕ = packet_of (lane_down l d).link d.packet_count pdu in
    let up : lane_up l (station_at (other s) new).up ≡ lane_up l (station_at (other s) old).up = ap (λ x. lane_up l x.up) h.marks.spares.station in
    record {
      forth = put-in-lane l (λ m. on_way (way_from s m old)) (λ m. on_way (way_from s m new)) (pdu ∷ [])
          (on-way-sends (way_from s l old) (way_from s l new) (q ∷ []) (pdu ∷ []) (is l) h.sends up (h.marks.marks l)) (ap on_way h.other);
      back = back-marks s old new h.marks;
      left = λ r. more-in-lane l (λ m. octets_left (way_from s m old)) (λ m. octets_left (way_from s m new)) 131084
          (left-polls (way_from s l old) (way_from s l new) q (pdu ∷ []) (is l) h.sends (r l) up (h.marks.marks l)) (ap octets_left h.other);
    }

-- ---- a flush
-- The same PDUs are on their way, and less is left.
pub record FlushesOnWay (s : Side) (old new : WorldState) : Type 0 where
  pub forth : on_way_from s new ≡ on_way_from s old
  pub back : (l : Lane) → way_from (other s) l new ≡ way_from (other s) l old
  pub left : AreRested s old → AreRested s new → octets_left_from s new < octets_left_from s old

-- one lane has less, and none has more
fewer-in-one : (l : Lane) (old new : Lane → ℕ) → new l < old l → ((m : Lane) → new m ≤ old m) → new Directives + new Data < old Directives + old Data
fewer-in-one Directives old new less most = omega (arith, less, most Data)
fewer-in-one Data old new less most = omega (arith, less, most Directives)

pub fills-on-way : (s : Side) (old new : WorldState) → AreWays s old → Fills s old new → HasFrame s old new → FlushesOnWay s old new
fills-on-way s old new is h frame =
    let up : (l : Lane) → lane_up l (station_at (other s) new).up ≡ lane_up l (station_at (other s) old).up = λ l. ap (λ x. lane_up l x.up) h.marks.spares.station in
    record {
      forth = lanes-same (λ m. on_way (way_from s m old)) (λ m. on_way (way_from s m new))
          (λ l. on-way-flushes (way_from s l old) (way_from s l new) (filling s l old) (is l) (h.sends l) (up l) (h.marks.marks l));
      back = back-marks s old new h.marks;
      left = λ r t. fewer-in-one frame.0 (λ m. octets_left (way_from s m old)) (λ m. octets_left (way_from s m new))
          (left-fills (way_from s frame.0 old) (way_from s frame.0 new) (is frame.0) (r frame.0) (h.sends frame.0) (t frame.0) (up frame.0) (h.marks.marks frame.0) frame.1)
          (λ l. left-flushes (way_from s l old) (way_from s l new) (is l) (r l) (h.sends l) (t l) (up l) (h.marks.marks l));
    }

-- ---- a frame that is taken
-- These PDUs, the first of a lane, aren't on their way any more.
pub record TakesOffWay (s : Side) (gone : List (List ℕ)) (old new : WorldState) : Type 0 where
  pub forth : IsSwapped (on_way_from s old) (gone ++ on_way_from s new)
  pub back : (l : Lane) → way_from (other s) l new ≡ way_from (other s) l old
  pub left : octets_left_from s new + 1 ≡ octets_left_from s old

-- One that is delivered: some of them were heard, and all if none was lost and no drop counted for
-- lack of memory.
pub record HearsOnWay (s : Side) (given : List (List ℕ)) (old new : WorldState) : Type 0 where
  pub gone : List (List ℕ)
  pub takes : TakesOffWay s gone old new
  pub part : IsPartOf given gone
  pub all : ((l : Lane) → list_any not (lane_from s l new).marks ≡ false) → drop_count (station_at (other s) new).up 11 ≡ 0 → given ≡ gone

pub delivers-on-way : (s : Side) (l : Lane) (old new : WorldState) → AreWays s old → (h : DeliversFrame s l old new) → HearsOnWay s h.given old new
delivers-on-way s l old new is h =
    let down : (lane_down l (station_at s new).down) ≡ (lane_down l (station_at s old).down) = ap (λ x. lane_down l x.down) h.station in
    let link : (lane_down l (station_at s new).down).link ≡ (lane_down l (station_at s old).down).link = ap (λ (d : LinkSenderState). d.link) down in
    let marks : (lane_from s l new).marks ≡ (lane_from s l old).marks ++ true ∷ [] = ap (λ (k : LinkState). k.marks) h.link in
    let frames : (lane_from s l new).frames ≡ (lane_from s l old).frames = ap (λ (k : LinkState). k.frames) h.link in
    let same : way_from s (other_lane l) new ≡ way_from s (other_lane l) old = other-delivers s l old new h in
    record {
      gone = pdus_ended (way_from s l old);
      takes = record {
        forth = take-from-lane l (λ m. on_way (way_from s m old)) (λ m. on_way (way_from s m new)) (pdus_ended (way_from s l old))
            (on-way-takes (way_from s l old) (way_from s l new) true (is l) h.hears.packets link marks) (ap on_way same);
        back = back-delivers s l old new h;
        left = one-fewer-in-lane l (λ m. octets_left (way_from s m old)) (λ m. octets_left (way_from s m new))
            (left-takes (way_from s l old) (way_from s l new) true down frames marks h.waits) (ap octets_left same);
      };
      part = on-way-hears (way_from s l old) (way_from s l new) h.given (is l) h.hears link marks;
      all = λ none memory. on-way-all (way_from s l old) (way_from s l new) h.given (is l) h.hears link marks (none l) (sum-none (station_at (other s) new).up 11 memory l);
    }

-- One that is lost, whatever was counted at the other end.
pub loses-on-way : (s : Side) (l : Lane) (old new : WorldState) → AreWays s old → LosesFrame s l old new → TakesOffWay s (pdus_ended (way_from s l old)) old new
loses-on-way s l old new is h =
    let down : (lane_down l (station_at s new).down) ≡ (lane_down l (station_at s old).down) = ap (λ x. lane_down l x.down) h.station in
    let link : (lane_down l (station_at s new).down).link ≡ (lane_down l (station_at s old).down).link = ap (λ (d : LinkSenderState). d.link) down in
    let marks : (lane_from s l new).marks ≡ (lane_from s l old).marks ++ false ∷ [] = ap (λ (k : LinkState). k.marks) h.link in
    let frames : (lane_from s l new).frames ≡ (lane_from s l old).frames = ap (λ (k : LinkState). k.frames) h.link in
    let m : Lane = other_lane l in
    let same : lane_down m (station_at s new).down ≡ lane_down m (station_at s old).down = ap (λ x. lane_down m x.down) h.station in
    record {
      forth = take-from-lane l (λ m. on_way (way_from s m old)) (λ m. on_way (way_from s m new)) (pdus_ended (way_from s l old))
          (on-way-takes (way_from s l old) (way_from s l new) false (is l) (h.sends l).packets link marks)
          (on-way-same (way_from s m old) (way_from s m new) same (ap (λ (k : LinkState). k.marks) h.other_link) (h.sends m).packets);
      back = back-loses s l old new h;
      left = one-fewer-in-lane l (λ m. octets_left (way_from s m old)) (λ m. octets_left (way_from s m new))
          (left-takes (way_from s l old) (way_from s l new) false down frames marks h.waits)
          (left-same (way_from s m old) (way_from s m new) same (ap (λ (k : LinkState). k.frames) h.other_link) (ap (λ (k : LinkState). k.marks) h.other_link));
    }
  where
    -- the other lane, whatever its end counts
    on-way-same : (o n : OneWayState) → n.down ≡ o.down → n.marks ≡ o.marks → packets_sent n ≡ packets_sent o → on_way n ≡ on_way o
    on-way-same o n down marks packets =
        ap (λ ps. pdus_in (busy (behind (length n.marks * n.down.link.zone) 0 ps))) packets
        ∙ ap (λ (ms : List Bool). pdus_in (busy (behind (length ms * n.down.link.zone) 0 (packets_sent o)))) marks
        ∙ ap (λ (d : LinkSenderState). pdus_in (busy (behind (length o.marks * d.link.zone) 0 (packets_sent o)))) down

    left-same : (o n : OneWayState) → n.down ≡ o.down → n.frames ≡ o.frames → n.marks ≡ o.marks → octets_left n ≡ octets_left o
    left-same o n down frames marks = omega (arith, ap (λ d. length d.waiting) down, ap length frames, ap length marks)

-- ---- in the end
pub settled-on-way : (s : Side) (w : WorldState) → AreWays s w → AreRested s w → IsSettledAt s w → on_way_from s w ≡ []
settled-on-way s w is rests h =
    let none : (l : Lane) → on_way (way_from s l w) ≡ [] = λ l. on-way-settled (way_from s l w) (is l) (rests l) (h.filled l) (h.none_waits l) in
    lanes-same (λ l. []) (λ l. on_way (way_from s l w)) none
